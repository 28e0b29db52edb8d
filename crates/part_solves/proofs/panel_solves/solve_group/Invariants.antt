use Rattle.std.proofs.Common.{ℕ, ◌+◌, ◌-◌, ◌<◌, ◌≤◌}
use Rattle.matrix_parts.specs.Opers.{op_rows}
use Rattle.part_solves.specs.LineSystems.{AreSolvedTo, line_of}
use Rattle.part_solves.proofs.panel_solves.solve_group.Given as goal

abbrev pub invariant-loop-done : goal.invariant-loop-done
invariant-loop-done l = record {
  end : l.done ≤ l.group.count;
  solved : (before : ℕ → ℕ → ℕ) → AreSolvedTo l.system l.lines.first l.lines.count before l.fn.panel l.group.start
      → AreSolvedTo l.system l.lines.first l.lines.count before l.panel (l.group.start + l.done);
  residues : (g k : ℕ) → g < l.lines.count → k < op_rows l.system.table → line_of l.panel (op_rows l.system.table) g k < l.system.reducer;
}

abbrev pub decreases-loop-done : goal.decreases-loop-done
decreases-loop-done l = l.group.count - l.done
