use Rattle.std.proofs.Common.{◌+◌, ◌*◌, ◌<◌, ◌^◌, slice_index}
use Rattle.residue_sums.specs.Residues.{Cong}
use Rattle.residue_sums.specs.Sums.{sum_below}
use Rattle.part_solves.proofs.three_solves.late_sum.Given as goal

abbrev pub invariant-loop-k : goal.invariant-loop-k
invariant-loop-k l = record {
  value : Cong l.fn.m l.sum (l.fn.early + sum_below (λ k. slice_index l.row k * slice_index l.line k) l.k);
  small : l.sum < (l.k + 1) * 2 ^ 32;
}
