use Rattle.std.proofs.Common.{◌≡◌, ℕ, ◌+◌, ◌*◌, ◌<◌, ◌≤◌}
use Rattle.residue_sums.specs.Residues.{Cong}
use Rattle.residue_sums.specs.Sums.{sum_below}
use Rattle.residue_sums.specs.Grids.{entry}
use Rattle.matrix_parts.specs.Opers.{op_rows, op_table}
use Rattle.matrix_parts.specs.Lent.{grid_of}
use Rattle.part_solves.specs.LineSystems.{line_of}
use Rattle.part_solves.specs.SylvesterSystems.{sign}
use Rattle.part_solves.proofs.sylvester.SylvesterSystem.reduce_piece.Given as goal

abbrev pub invariant-loop-i : goal.invariant-loop-i
invariant-loop-i l = record {
  here : (g i : ℕ) → g < l.p.lines → i < l.i → Cong l.self.columns.reducer
      (line_of l.panel (op_rows l.self.columns.table) g i + sign l.self.columns.reducer l.self.negative
      * sum_below (λ k. entry (grid_of l.w) i (l.p.from + k) * op_table l.self.rows.table (l.p.first + g) (l.p.from + k)) l.p.len)
      (line_of l.fn.panel (op_rows l.self.columns.table) g i);
  pending : (g i : ℕ) → l.i ≤ i → i < op_rows l.self.columns.table → line_of l.panel (op_rows l.self.columns.table) g i ≡ line_of l.fn.panel (op_rows l.self.columns.table) g i;
  residues : (g k : ℕ) → g < l.p.lines → k < op_rows l.self.columns.table → line_of l.panel (op_rows l.self.columns.table) g k < l.self.columns.reducer;
}
