use Rattle.std.proofs.Common.{◌≡◌, ℕ, ◌*◌, ◌%◌, ◌<◌}
use Rattle.residue_sums.specs.Grids.{entry}
use Rattle.matrix_parts.specs.Opers.{op_table}
use Rattle.matrix_parts.specs.Lent.{grid_of, loan_of, IsPart, IsKept}
use Rattle.part_factors.specs.BadPlaces.{pair_pivots}
use Rattle.part_factors.proofs.pair_pivots.pivots_sylvester.Given as goal

abbrev pub invariant-loop-i : goal.invariant-loop-i
invariant-loop-i l = record {
  loan : loan_of l.out ≡ loan_of l.fn.out;
  part : IsPart l.out;
  kept : IsKept l.fn.out l.out;
  inverts : (i j : ℕ) → i < l.i → j < l.fn.out.cols → (pair_pivots l.m l.minus (op_table l.t) (op_table l.u) i j * entry (grid_of l.out) i j) % l.m ≡ 1;
  range : (i j : ℕ) → i < l.i → j < l.fn.out.cols → entry (grid_of l.out) i j < l.m;
}
