use Rattle.std.proofs.Common.{◌≡◌, ◌++◌, map}
use Rattle.task_graph.specs.Order.{numbers_below}
use Rattle.invariant_family.specs.Splits.{along}
use Rattle.invariant_family.proofs.families.add_singles.Given as goal

abbrev pub invariant-loop-first : goal.invariant-loop-first
invariant-loop-first l = l.splits.items ≡ l.initial.splits.items ++ map along (numbers_below l.first)
