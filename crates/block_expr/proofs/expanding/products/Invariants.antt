use Rattle.std.proofs.Common.{◌≡◌, ◌≤◌}
use Rattle.block_expr.specs.Seen.{tree_of}
use Rattle.block_expr.specs.Expanded.{products_of}
use Rattle.block_expr.proofs.expanding.products.Given as goal

abbrev pub invariant-loop-k : goal.invariant-loop-k
invariant-loop-k l = record {
  some : 1 ≤ l.k;
  summed : tree_of l.found ≡ products_of l.a.leaf l.a.primed l.b.leaf l.b.primed l.k l.place.row l.place.col;
}
