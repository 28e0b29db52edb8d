use Rattle.std.proofs.Common.{◌≡◌, ◌++◌}
use Rattle.std.specs.List.{flat_map}
use Rattle.task_graph.specs.Order.{numbers_below}
use Rattle.invariant_family.specs.Splits.{pair_if_later}
use Rattle.invariant_family.proofs.families.add_pairs_from.Given as goal

abbrev pub invariant-loop-second : goal.invariant-loop-second
invariant-loop-second l = l.splits.items ≡ l.initial.splits.items ++ flat_map (pair_if_later l.first) (numbers_below l.second)
