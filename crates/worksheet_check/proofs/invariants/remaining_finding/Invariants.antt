use Rattle.std.proofs.Common.{◌≡◌, drop}
use Rattle.std.specs.List.{find}
use Rattle.invariant_family.specs.Splits.{remaining_part, all_split_indices}
use Rattle.worksheet_check.proofs.invariants.remaining_finding.Given as goal

abbrev pub invariant-loop-task : goal.invariant-loop-task
invariant-loop-task l =
    let test = all_split_indices l.along.op.now l.along.split l.along.dirs remaining_part in
    find test (drop l.task-index l.set) ≡ find test l.set
