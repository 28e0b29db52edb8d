use Rattle.std.proofs.Common.{◌≡◌, drop}
use Rattle.block_values.specs.States.{with_updates}
use Rattle.block_expr.specs.Seen.{tree_of}
use Rattle.block_expr.proofs.states.with_updates.Given as goal

abbrev pub invariant-loop-task : goal.invariant-loop-task
invariant-loop-task l = with_updates l.op (drop l.task-index l.tasks) (tree_of l.updated) ≡ with_updates l.op l.tasks (tree_of l.fn.start)
