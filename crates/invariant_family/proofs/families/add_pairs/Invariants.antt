use Rattle.std.proofs.Common.{◌≡◌, ◌++◌}
use Rattle.std.specs.List.{flat_map}
use Rattle.task_graph.specs.Order.{numbers_below}
use Rattle.invariant_family.specs.Splits.{pairs_from}
use Rattle.invariant_family.proofs.families.add_pairs.Given as goal

abbrev pub invariant-loop-first : goal.invariant-loop-first
invariant-loop-first l = l.splits.items ≡ l.initial.splits.items ++ flat_map (pairs_from l.count) (numbers_below l.first)
