use Rattle.std.proofs.Common.{◌≡◌, ◌%◌, slice_index}
use Rattle.residue_sums.specs.Sums.{sum_below}
use Rattle.algebra_witness.proofs.parts.sum.Given as goal

abbrev pub invariant-loop-x : goal.invariant-loop-x
invariant-loop-x l = l.total ≡ sum_below (slice_index l.a) l.x-index % l.modulus
