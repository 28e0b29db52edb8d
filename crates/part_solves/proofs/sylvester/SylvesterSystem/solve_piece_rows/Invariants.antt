use Rattle.std.proofs.Common.{ℕ, ◌*◌, ◌<◌}
use Rattle.matrix_parts.specs.Opers.{op_rows}
use Rattle.part_solves.specs.LineSystems.{line_of}
use Rattle.part_solves.specs.SylvesterSystems.{IsPieceTo, columns_of}
use Rattle.part_solves.proofs.sylvester.SylvesterSystem.solve_piece_rows.Given as goal

abbrev pub invariant-loop-r : goal.invariant-loop-r
invariant-loop-r l = record {
  solved : IsPieceTo l.self l.p (columns_of l.fn.panel (op_rows l.self.columns.table)) (columns_of l.panel (op_rows l.self.columns.table)) (l.r * l.p.lines);
  residues : (g k : ℕ) → g < l.p.lines → k < op_rows l.self.columns.table → line_of l.panel (op_rows l.self.columns.table) g k < l.self.columns.reducer;
}
