use Rattle.std.proofs.Common.{◌≡◌, drop}
use Rattle.std.specs.List.{find}
use Rattle.worksheet_check.specs.InvariantFindings.{lacks}
use Rattle.worksheet_check.proofs.invariants.lacking.Given as goal

abbrev pub invariant-loop-need : goal.invariant-loop-need
invariant-loop-need l = find (lacks l.op l.set l.task) (drop l.need-index l.tasks) ≡ find (lacks l.op l.set l.task) l.tasks
