use Rattle.std.proofs.Common.{◌≡◌, ◌++◌, drop}
use Rattle.issue_list.specs.LoopOrder.{tasks_placed}
use Rattle.issue_list.proofs.loop_order.add_iteration.Given as goal

abbrev pub invariant-loop-item : goal.invariant-loop-item
invariant-loop-item l = l.ordered.items ++ tasks_placed (drop l.item-index l.placed) l.t ≡ l.initial.ordered.items ++ tasks_placed l.placed l.t
