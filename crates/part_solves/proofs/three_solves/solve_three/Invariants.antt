use Rattle.std.proofs.Common.{◌≡◌, ℕ, ◌+◌, ◌<◌}
use Rattle.matrix_algebra.proofs.Triangles.{structure_of}
use Rattle.matrix_parts.specs.Opers.{op_rows}
use Rattle.part_solves.specs.LineSystems.{AreSolvedTo, early_of, line_of}
use Rattle.part_solves.proofs.three_solves.solve_three.Given as goal

abbrev pub invariant-loop-s : goal.invariant-loop-s
invariant-loop-s l = record {
  solved : (before : ℕ → ℕ → ℕ) → AreSolvedTo l.system l.lines.first l.lines.count before l.fn.panel l.group.start
      → AreSolvedTo l.system l.lines.first l.lines.count before l.panel (l.group.start + l.s);
  kept : (q g k : ℕ) → k < (early_of (structure_of l.system.table.primed l.system.table.structure) (op_rows l.system.table) l.group.start q).len
      → line_of l.panel (op_rows l.system.table) g ((early_of (structure_of l.system.table.primed l.system.table.structure) (op_rows l.system.table) l.group.start q).from + k)
      ≡ line_of l.fn.panel (op_rows l.system.table) g ((early_of (structure_of l.system.table.primed l.system.table.structure) (op_rows l.system.table) l.group.start q).from + k);
  residues : (g k : ℕ) → g < l.lines.count → k < op_rows l.system.table → line_of l.panel (op_rows l.system.table) g k < l.system.reducer;
}
