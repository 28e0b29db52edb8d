use Rattle.std.proofs.Common.{◌≡◌, drop}
use Rattle.worksheet_check.specs.InvariantFindings.{lacks}
use Rattle.std.specs.List.{find, list_any}
use Rattle.worksheet_check.proofs.invariants.need_finding.Given as goal

abbrev pub invariant-loop-task : goal.invariant-loop-task
invariant-loop-task l = find (λ a. list_any (lacks l.op l.set a) l.tasks) (drop l.task-index l.set) ≡ find (λ a. list_any (lacks l.op l.set a) l.tasks) l.set
