use Rattle.std.proofs.Common.{◌≡◌, ◌≢◌, ℕ, ◌+◌, ◌<◌, ◌≤◌, ◌⊎◌}
use Rattle.residue_sums.specs.Tables.{oriented}
use Rattle.residue_sums.specs.Grids.{entry}
use Rattle.matrix_parts.specs.Opers.{op_rows}
use Rattle.matrix_parts.specs.Lent.{grid_of, loan_of, IsPart, IsKept}
use Rattle.part_solves.specs.LineSystems.{IsInLine, line_of, line_count}
use Rattle.part_solves.proofs.line_systems.LineSystem.write_across.Given as goal

abbrev pub invariant-loop-g : goal.invariant-loop-g
invariant-loop-g l = record {
  loan : loan_of l.w ≡ loan_of l.fn.w;
  part : IsPart l.w;
  kept : IsKept l.fn.w l.w;
  here : (g : ℕ) → g < l.g → IsInLine l.self.turned l.self.inside (l.lines.first + g) l.k
      → oriented l.self.turned (entry (grid_of l.w)) (l.lines.first + g) l.k ≡ line_of l.panel (op_rows l.self.table) g l.k;
  others : (h q : ℕ) → h < line_count l.self.turned (grid_of l.fn.w) → q < op_rows l.self.table
      → (q ≢ l.k) ⊎ ((h < l.lines.first) ⊎ ((l.lines.first + l.g ≤ h) ⊎ ¬ (IsInLine l.self.turned l.self.inside h q)))
      → oriented l.self.turned (entry (grid_of l.w)) h q ≡ oriented l.self.turned (entry (grid_of l.fn.w)) h q;
  residues : (a b : ℕ) → a < l.fn.w.rows → b < l.fn.w.cols → entry (grid_of l.w) a b < l.self.reducer;
}
