use Rattle.std.proofs.Common.{◌≡◌, ◌++◌, drop}
use Rattle.std.specs.Prelude.{filter, ◌&&◌}
use Rattle.operation_spec.specs.declared.task.Task.{Task}
use Rattle.worksheet.specs.Moments.{is_at, is_done}
use Rattle.worksheet.proofs.moments.Moment.done_at.Given as goal

abbrev pub invariant-loop-task : goal.invariant-loop-task
invariant-loop-task l =
    let test = λ (a : Task). is_at l.place a && is_done l.self.op.now l.self.kept.now l.self.cut.now a in
    l.done ++ filter test (drop l.task-index l.tasks) ≡ filter test l.tasks
