use Rattle.std.proofs.Common.{◌≡◌, ◌≢◌, ◌⊎◌, ℕ, ◌*◌, ◌%◌, ◌<◌, ◌≤◌}
use Rattle.residue_sums.specs.Grids.{entry}
use Rattle.matrix_parts.specs.Lent.{grid_of, loan_of, IsPart, IsKept}
use Rattle.part_solves.proofs.ldl_solves.scale_row.Given as goal

abbrev pub invariant-loop-j : goal.invariant-loop-j
invariant-loop-j l = record {
  loan : loan_of l.w ≡ loan_of l.fn.w;
  part : IsPart l.w;
  kept : IsKept l.fn.w l.w;
  here : (b : ℕ) → b < l.j → entry (grid_of l.w) l.i b ≡ (entry (grid_of l.fn.w) l.i b * entry l.scales 0 b) % l.m;
  others : (a b : ℕ) → a < l.fn.w.rows → b < l.fn.w.cols → (a ≢ l.i) ⊎ (l.j ≤ b) → entry (grid_of l.w) a b ≡ entry (grid_of l.fn.w) a b;
}
