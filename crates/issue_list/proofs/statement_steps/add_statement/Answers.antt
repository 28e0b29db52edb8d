use Rattle.std.proofs.Common.{◌∙◌}
use Rattle.std.proofs.lemmas.List.Elements.{All-same}
use Rattle.job_blocks.specs.BlockedJobs.{HasTask, counts_at, operation_at}
use Rattle.issue_list.specs.IssuedSteps.{issued_tasks}
use Rattle.issue_list.proofs.IssuedTasks.{All-block_issued, block_tasks}
use Rattle.issue_list.proofs.TasksOfStatements.{All-listed}
use Rattle.issue_list.proofs.statement_steps.add_statement.Goals as goal

pub add_steps-requires-clause-tasks : goal.add_steps-requires-clause-tasks
add_steps-requires-clause-tasks c =
    let x = c.args.blocks.now in
    let op = operation_at x c.args.s in
    let counts = counts_at x c.args.s in
    let v = c.args.variant.now in
    All-same (HasTask x c.args.s) c.as_slice.result.now (issued_tasks op counts v) (c.as_slice.ensures.value ∙ c.in_ok-own.ensures.tasks)
    (All-listed op counts (block_tasks op counts v) (All-block_issued op counts v))
