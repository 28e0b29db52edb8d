use Rattle.std.proofs.Common.{◌≡◌, drop}
use Rattle.block_values.specs.Orders.{placed_all, in_order}
use Rattle.block_expr.proofs.orders.in_order.Given as goal

abbrev pub invariant-loop-task : goal.invariant-loop-task
invariant-loop-task l = placed_all l.op l.sorted.items (drop l.task-index l.tasks) ≡ in_order l.op l.tasks
