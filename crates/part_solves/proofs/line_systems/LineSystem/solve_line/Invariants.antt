use Rattle.std.proofs.Common.{◌≡◌, ◌≢◌, ℕ, ◌<◌, ◌⊎◌}
use Rattle.residue_sums.specs.Tables.{oriented}
use Rattle.residue_sums.specs.Grids.{entry}
use Rattle.matrix_parts.specs.Opers.{op_rows, op_table}
use Rattle.matrix_parts.specs.Lent.{grid_of, loan_of, IsPart, IsKept}
use Rattle.part_solves.specs.LineSystems.{IsInLine, IsSolvedTo, line_table, line_count, order_in}
use Rattle.part_solves.proofs.line_systems.LineSystem.solve_line.Given as goal

abbrev pub invariant-loop-r : goal.invariant-loop-r
invariant-loop-r l = record {
  loan : loan_of l.w ≡ loan_of l.fn.w;
  part : IsPart l.w;
  kept : IsKept l.fn.w l.w;
  solved : IsSolvedTo l.self.reducer (op_rows l.self.table) (IsInLine l.self.turned l.self.inside l.line) (op_table l.self.table) (order_in l.self.table)
      (line_table l.self.turned l.self.inside (entry (grid_of l.fn.w)) l.line) (line_table l.self.turned l.self.inside (entry (grid_of l.w)) l.line) l.r;
  others : (h k : ℕ) → h < line_count l.self.turned (grid_of l.fn.w) → k < op_rows l.self.table → (h ≢ l.line) ⊎ ¬ (IsInLine l.self.turned l.self.inside h k)
      → oriented l.self.turned (entry (grid_of l.w)) h k ≡ oriented l.self.turned (entry (grid_of l.fn.w)) h k;
  residues : (a b : ℕ) → a < l.fn.w.rows → b < l.fn.w.cols → entry (grid_of l.w) a b < l.self.reducer;
}
