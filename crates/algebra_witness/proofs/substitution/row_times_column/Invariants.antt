use Rattle.std.proofs.Common.{◌≡◌, ◌+◌, ◌*◌, ◌%◌, slice_index}
use Rattle.residue_sums.specs.Sums.{sum_below}
use Rattle.algebra_witness.proofs.substitution.row_times_column.Given as goal

abbrev pub invariant-loop-k : goal.invariant-loop-k
invariant-loop-k l = l.sum ≡ sum_below (λ k. slice_index l.a (l.of.row * l.of.inner + k) * slice_index l.b (k * l.of.cols + l.of.col)) l.k % l.modulus
