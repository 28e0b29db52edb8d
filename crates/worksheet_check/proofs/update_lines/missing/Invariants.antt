use Rattle.std.proofs.Common.{◌≡◌, drop}
use Rattle.std.specs.Prelude.{not}
use Rattle.std.specs.List.{find}
use Rattle.operation_spec.specs.declared.task.Task.{Task}
use Rattle.invariant_family.specs.Feasible.{holds}
use Rattle.worksheet_check.proofs.update_lines.missing.Given as goal

abbrev pub invariant-loop-task : goal.invariant-loop-task
invariant-loop-task l =
    let test = λ (b : Task). not (holds l.updates b) in
    find test (drop l.task-index l.due) ≡ find test l.due
