use Rattle.std.proofs.Common.{◌≡◌, ℕ, ◌<◌, get_or, false}
use Rattle.task_graph.specs.Order.{is_earlier}
use Rattle.block_expr.proofs.orders.place_of.Given as goal

abbrev pub invariant-loop-at : goal.invariant-loop-at
invariant-loop-at l = (k : ℕ) → k < l.at → is_earlier l.op l.task (get_or l.sorted k l.task) ≡ false
