use Rattle.std.proofs.Common.{◌≡◌, ◌*◌, ◌%◌, length, slice_index}
use Rattle.residue_sums.specs.Sums.{sum_below}
use Rattle.algebra_witness.proofs.dot.dot.Given as goal

abbrev pub invariant-loop-x : goal.invariant-loop-x
invariant-loop-x l = l.sum ≡ sum_below (λ k. slice_index l.a k * slice_index l.b k) (length l.yielded) % l.modulus
