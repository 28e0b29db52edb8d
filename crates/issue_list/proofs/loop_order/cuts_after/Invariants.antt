use Rattle.std.proofs.Common.{◌≡◌, map}
use Rattle.std.specs.List.{range_with_len}
use Rattle.issue_list.specs.IssuedSteps.{cut_after}
use Rattle.issue_list.proofs.loop_order.cuts_after.Given as goal

abbrev pub invariant-loop-t : goal.invariant-loop-t
invariant-loop-t l = l.cuts.items ≡ map (cut_after l.op l.counts l.variant.split l.variant.dirs) (range_with_len 0 l.t)
