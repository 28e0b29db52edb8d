use Rattle.std.proofs.Common.{◌≡◌, ℕ, ◌*◌, ◌%◌, ◌<◌, ◌≤◌}
use Rattle.residue_sums.specs.Grids.{entry}
use Rattle.matrix_parts.specs.Lent.{grid_of, loan_of, IsPart, IsKept}
use Rattle.part_solves.proofs.ldl_solves.scale_columns.Given as goal

abbrev pub invariant-loop-i : goal.invariant-loop-i
invariant-loop-i l = record {
  loan : loan_of l.w ≡ loan_of l.fn.w;
  part : IsPart l.w;
  kept : IsKept l.fn.w l.w;
  scaled : (a b : ℕ) → a < l.i → b < l.fn.w.cols → entry (grid_of l.w) a b ≡ (entry (grid_of l.fn.w) a b * entry l.scales 0 b) % l.m;
  pending : (a b : ℕ) → l.i ≤ a → a < l.fn.w.rows → b < l.fn.w.cols → entry (grid_of l.w) a b ≡ entry (grid_of l.fn.w) a b;
}
