use Rattle.std.proofs.Common.{◌≡◌, ◌≢◌, ℕ, ◌*◌, ◌%◌, ◌<◌}
use Rattle.residue_sums.specs.Grids.{entry}
use Rattle.matrix_parts.specs.Opers.{op_table}
use Rattle.matrix_parts.specs.Lent.{grid_of, loan_of, IsPart, IsKept}
use Rattle.part_factors.specs.BadPlaces.{pair_pivots}
use Rattle.part_factors.proofs.pair_pivots.put_row.Given as goal

abbrev pub invariant-loop-j : goal.invariant-loop-j
invariant-loop-j l = record {
  loan : loan_of l.out ≡ loan_of l.fn.out;
  part : IsPart l.out;
  kept : IsKept l.fn.out l.out;
  inverts : (j : ℕ) → j < l.j → (pair_pivots l.m l.minus (op_table l.t) (op_table l.u) l.i j * entry (grid_of l.out) l.i j) % l.m ≡ 1;
  range : (j : ℕ) → j < l.j → entry (grid_of l.out) l.i j < l.m;
  others : (a b : ℕ) → a < l.fn.out.rows → b < l.fn.out.cols → a ≢ l.i → entry (grid_of l.out) a b ≡ entry (grid_of l.fn.out) a b;
}
