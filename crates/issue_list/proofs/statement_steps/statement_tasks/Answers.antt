use Rattle.std.proofs.Common.{List, ℕ, ◌<◌, length, sym, subst}
use Rattle.operation_spec.specs.declared.operation.Operation.{Operation}
use Rattle.operation_spec.specs.ValidOperations.{IsValid}
use Rattle.task_graph.specs.Order.{tasks_of}
use Rattle.task_graph.proofs.Joined.{passed_on}
use Rattle.job_blocks.specs.BlockedJobs.{counts_at, operation_at}
use Rattle.job_blocks.proofs.StatementFacts.{sound}
use Rattle.issue_list.specs.CanonicalSteps.{most_steps}
use Rattle.issue_list.proofs.IssuedCounts.{issued-many}
use Rattle.issue_list.proofs.IssuedTasks.{variant-found}
use Rattle.issue_list.proofs.statement_steps.statement_tasks.Goals as goal

pub returns-in_err-listed-clause-many : goal.returns-in_err-listed-clause-many
returns-in_err-listed-clause-many c h =
    let x = c.args.blocks.now in
    let op = operation_at x c.args.s in
    let told = c.in_err-listed.ensures.too_many (passed_on c.from_residual-in_err-listed.result c.from_residual-in_err-listed.ensures.1 h) in
    issued-many op (counts_at x c.args.s) (sound x c.args.s c.operation-op.ensures.valid c.requires.statement).valid c.args.variant.now
    (variant-found op c.requires.variant.0 c.args.variant.now c.requires.variant.1) most_steps
    (subst (λ (counts : List ℕ). most_steps < length (tasks_of op counts)) c.in_ok-counts.ensures
    (subst (λ (o : Operation). most_steps < length (tasks_of o c.in_ok-counts.counts)) c.operation-op.ensures.operation told))

pub in_loop_order-requires-clause-valid : goal.in_loop_order-requires-clause-valid
in_loop_order-requires-clause-valid c =
    subst IsValid (sym c.operation-op.ensures.operation) (sound c.args.blocks.now c.args.s c.operation-op.ensures.valid c.requires.statement).valid
