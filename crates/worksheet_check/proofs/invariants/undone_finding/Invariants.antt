use Rattle.std.proofs.Common.{◌≡◌, drop}
use Rattle.std.specs.Prelude.{◌&&◌, not}
use Rattle.std.specs.List.{find}
use Rattle.operation_spec.specs.declared.task.Task.{Task}
use Rattle.worksheet.specs.Moments.{is_done}
use Rattle.worksheet_check.proofs.invariants.undone_finding.Given as goal

abbrev pub invariant-loop-task : goal.invariant-loop-task
invariant-loop-task l =
    let test = λ (a : Task). is_done l.op l.set l.cuts.before.now a && not (is_done l.op l.set l.cuts.after.now a) in
    find test (drop l.task-index l.tasks) ≡ find test l.tasks
