use Rattle.std.proofs.Common.{◌<◌, All}
use Rattle.kernel_bench.specs.Squares.{HasProduct}
use Rattle.kernel_bench.proofs.unit.add_product.Given as goal

abbrev pub invariant-loop-i : goal.invariant-loop-i
invariant-loop-i l = record {
  product : HasProduct l.m l.i l.first l.second l.fn.entries l.entries;
  residues : All (λ x. x < l.m) l.entries;
}
