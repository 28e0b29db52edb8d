use Rattle.std.proofs.Common.{◌≡◌, None, drop}
use Rattle.worksheet_check.specs.InvariantFindings.{out_of_order}
use Rattle.worksheet_check.proofs.invariants.out_of_order.Given as goal

abbrev pub invariant-loop-task : goal.invariant-loop-task
invariant-loop-task l = out_of_order l.op l.tasks l.before (drop l.task-index l.set) ≡ out_of_order l.op l.tasks None l.set
