use Rattle.std.proofs.Common.{◌≡◌}
use Rattle.std.specs.List.{flat_map, range_with_len}
use Rattle.issue_list.specs.LoopOrder.{tasks_placed}
use Rattle.issue_list.proofs.loop_order.in_loop_order.Given as goal

abbrev pub invariant-loop-t : goal.invariant-loop-t
invariant-loop-t l = l.ordered.items ≡ flat_map (tasks_placed l.placed.items) (range_with_len 0 l.t)
