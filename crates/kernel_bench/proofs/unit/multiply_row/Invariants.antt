use Rattle.std.proofs.Common.{◌≡◌, ℕ, ◌*◌, ◌<◌, slice_index}
use Rattle.residue_sums.specs.Sums.{sum_below}
use Rattle.residue_sums.specs.Grids.{entry}
use Rattle.kernel_bench.proofs.unit.multiply_row.Given as goal

abbrev pub invariant-loop-k : goal.invariant-loop-k
invariant-loop-k l = (j : ℕ) → j < l.cols → slice_index l.sums j ≡ sum_below (λ t. slice_index l.row t * entry l.b t j) l.k
