use Rattle.std.proofs.Common.{ℕ, ◌-◌, ◌<◌, ◌≤◌}
use Rattle.matrix_parts.specs.Opers.{op_rows}
use Rattle.part_solves.specs.LineSystems.{AreSolvedTo, line_of}
use Rattle.part_solves.proofs.panel_solves.solve_panel.Given as goal

abbrev pub invariant-loop-start : goal.invariant-loop-start
invariant-loop-start l = record {
  end : l.start ≤ op_rows l.system.table;
  solved : AreSolvedTo l.system l.lines.first l.lines.count (line_of l.fn.panel (op_rows l.system.table)) l.panel l.start;
  residues : (g k : ℕ) → g < l.lines.count → k < op_rows l.system.table → line_of l.panel (op_rows l.system.table) g k < l.system.reducer;
}

abbrev pub decreases-loop-start : goal.decreases-loop-start
decreases-loop-start l = op_rows l.system.table - l.start
