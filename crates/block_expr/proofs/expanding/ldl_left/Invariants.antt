use Rattle.std.proofs.Common.{◌≡◌, ◌≤◌, true, false}
use Rattle.block_values.specs.declared.leaf.Leaf.TheVariants.{L, D}
use Rattle.block_values.specs.Trees.{Mul, Block}
use Rattle.block_expr.specs.Seen.{tree_of}
use Rattle.block_expr.specs.Expanded.{products_of, sum_of}
use Rattle.block_expr.proofs.expanding.ldl_left.Given as goal

abbrev pub invariant-loop-k : goal.invariant-loop-k
invariant-loop-k l = record {
  some : 1 ≤ l.k;
  summed : tree_of l.found ≡ sum_of (λ k. Mul (products_of L false D false l.count l.place.row k) (Block L true k l.place.col)) l.k;
}
