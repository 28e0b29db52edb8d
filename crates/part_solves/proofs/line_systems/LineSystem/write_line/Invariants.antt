use Rattle.std.proofs.Common.{◌≡◌, ◌≢◌, ℕ, ◌+◌, ◌<◌, ◌≤◌, ◌⊎◌}
use Rattle.residue_sums.specs.Tables.{oriented}
use Rattle.residue_sums.specs.Grids.{entry}
use Rattle.matrix_parts.specs.Opers.{op_rows}
use Rattle.matrix_parts.specs.Lent.{grid_of, loan_of, IsPart, IsKept}
use Rattle.part_solves.specs.LineSystems.{IsInLine, line_of, line_count}
use Rattle.part_solves.proofs.line_systems.LineSystem.write_line.Given as goal

abbrev pub invariant-loop-k : goal.invariant-loop-k
invariant-loop-k l = record {
  loan : loan_of l.w ≡ loan_of l.fn.w;
  part : IsPart l.w;
  kept : IsKept l.fn.w l.w;
  here : (k : ℕ) → k < l.k → IsInLine l.self.turned l.self.inside (l.first + l.g) k
      → oriented l.self.turned (entry (grid_of l.w)) (l.first + l.g) k ≡ line_of l.panel (op_rows l.self.table) l.g k;
  others : (h k : ℕ) → h < line_count l.self.turned (grid_of l.fn.w) → k < op_rows l.self.table
      → (h ≢ l.first + l.g) ⊎ ((l.k ≤ k) ⊎ ¬ (IsInLine l.self.turned l.self.inside h k))
      → oriented l.self.turned (entry (grid_of l.w)) h k ≡ oriented l.self.turned (entry (grid_of l.fn.w)) h k;
  residues : (a b : ℕ) → a < l.fn.w.rows → b < l.fn.w.cols → entry (grid_of l.w) a b < l.self.reducer;
}
