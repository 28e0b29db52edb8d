use Rattle.std.proofs.Common.{◌≡◌, map, take, All}
use Rattle.issue_list.specs.LoopOrder.{IsPlaced}
use Rattle.issue_list.proofs.loop_order.places.Given as goal

abbrev pub invariant-loop-task : goal.invariant-loop-task
invariant-loop-task l = record {
  tasks : map (λ x. x.task) l.placed.items ≡ take l.task-index l.own;
  iterations : All (IsPlaced l.op l.counts l.variant) l.placed.items;
}
