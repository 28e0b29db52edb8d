use Rattle.std.proofs.Common.{◌≡◌, drop}
use Rattle.block_values.specs.States.{has_solved}
use Rattle.block_expr.proofs.states.has_solved.Given as goal

abbrev pub invariant-loop-task : goal.invariant-loop-task
invariant-loop-task l = has_solved (drop l.task-index l.tasks) ≡ has_solved l.tasks
