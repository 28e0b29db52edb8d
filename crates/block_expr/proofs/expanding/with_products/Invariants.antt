use Rattle.std.proofs.Common.{◌≡◌}
use Rattle.block_expr.specs.Seen.{tree_of}
use Rattle.block_expr.specs.Expanded.{with_products}
use Rattle.block_expr.proofs.expanding.with_products.Given as goal

abbrev pub invariant-loop-k : goal.invariant-loop-k
invariant-loop-k l = tree_of l.found ≡ with_products l.term l.place.row l.place.col l.k (tree_of l.fn.start)
