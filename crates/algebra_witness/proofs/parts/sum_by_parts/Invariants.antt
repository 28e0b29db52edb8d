use Rattle.std.proofs.Common.{◌≡◌, ◌%◌, slice_index, length}
use Rattle.residue_sums.specs.Sums.{sum_below, part_sum}
use Rattle.algebra_witness.proofs.parts.sum_by_parts.Given as goal

abbrev pub invariant-loop-p : goal.invariant-loop-p
invariant-loop-p l = l.total ≡ sum_below (part_sum (length l.a) l.size (slice_index l.a)) l.p % l.modulus
