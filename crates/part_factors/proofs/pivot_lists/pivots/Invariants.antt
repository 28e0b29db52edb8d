use Rattle.std.proofs.Common.{◌≡◌, ℕ, ◌*◌, ◌%◌, ◌<◌}
use Rattle.residue_sums.specs.Grids.{entry}
use Rattle.matrix_parts.specs.Opers.{op_table}
use Rattle.matrix_parts.specs.Lent.{grid_of, loan_of, IsPart, IsKept}
use Rattle.part_factors.proofs.pivot_lists.pivots.Given as goal

abbrev pub invariant-loop-i : goal.invariant-loop-i
invariant-loop-i l = record {
  loan : loan_of l.out ≡ loan_of l.fn.out;
  part : IsPart l.out;
  kept : IsKept l.fn.out l.out;
  inverts : (k : ℕ) → k < l.i → (op_table l.t k k * entry (grid_of l.out) 0 k) % l.m ≡ 1;
  range : (k : ℕ) → k < l.i → entry (grid_of l.out) 0 k < l.m;
}
