use Rattle.std.proofs.Common.{◌≡◌, ◌++◌, drop}
use Rattle.std.specs.Prelude.{filter, ◌&&◌, not}
use Rattle.operation_spec.specs.declared.task.Task.{Task}
use Rattle.worksheet.specs.Moments.{is_done}
use Rattle.worksheet.proofs.moments.updates.Given as goal

abbrev pub invariant-loop-task : goal.invariant-loop-task
invariant-loop-task l =
    let test = λ (a : Task). is_done l.after.op.now l.after.kept.now l.after.cut.now a && not (is_done l.before.op.now l.before.kept.now l.before.cut.now a) in
    l.updates ++ filter test (drop l.task-index l.tasks) ≡ filter test l.tasks
