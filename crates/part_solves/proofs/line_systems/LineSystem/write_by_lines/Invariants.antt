use Rattle.std.proofs.Common.{◌≡◌}
use Rattle.matrix_parts.specs.Opers.{op_rows}
use Rattle.matrix_parts.specs.Lent.{grid_of, loan_of, IsPart, IsKept}
use Rattle.part_solves.specs.LineSystems.{AreWritten}
use Rattle.part_solves.proofs.line_systems.LineSystem.write_by_lines.Given as goal

abbrev pub invariant-loop-g : goal.invariant-loop-g
invariant-loop-g l = record {
  loan : loan_of l.w ≡ loan_of l.fn.w;
  part : IsPart l.w;
  kept : IsKept l.fn.w l.w;
  written : AreWritten l.self l.first l.g (op_rows l.self.table) l.panel (grid_of l.fn.w) (grid_of l.w);
}
