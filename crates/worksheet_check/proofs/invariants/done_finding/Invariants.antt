use Rattle.std.proofs.Common.{◌≡◌, drop}
use Rattle.std.specs.Prelude.{◌&&◌, not}
use Rattle.std.specs.List.{find}
use Rattle.operation_spec.specs.declared.task.Task.{Task}
use Rattle.invariant_family.specs.Feasible.{holds}
use Rattle.invariant_family.specs.Splits.{done_part, all_split_indices}
use Rattle.worksheet_check.proofs.invariants.done_finding.Given as goal

abbrev pub invariant-loop-task : goal.invariant-loop-task
invariant-loop-task l =
    let test = λ (a : Task). all_split_indices l.along.op.now l.along.split l.along.dirs done_part a && not (holds l.set a) in
    find test (drop l.task-index l.tasks) ≡ find test l.tasks
