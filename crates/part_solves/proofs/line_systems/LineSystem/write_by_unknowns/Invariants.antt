use Rattle.std.proofs.Common.{◌≡◌}
use Rattle.matrix_parts.specs.Lent.{grid_of, loan_of, IsPart, IsKept}
use Rattle.part_solves.specs.LineSystems.{AreWritten}
use Rattle.part_solves.proofs.line_systems.LineSystem.write_by_unknowns.Given as goal

abbrev pub invariant-loop-k : goal.invariant-loop-k
invariant-loop-k l = record {
  loan : loan_of l.w ≡ loan_of l.fn.w;
  part : IsPart l.w;
  kept : IsKept l.fn.w l.w;
  written : AreWritten l.self l.first l.lines.count l.k l.panel (grid_of l.fn.w) (grid_of l.w);
}
