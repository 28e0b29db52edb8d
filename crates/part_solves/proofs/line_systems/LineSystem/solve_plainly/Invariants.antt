use Rattle.std.proofs.Common.{◌≡◌}
use Rattle.matrix_parts.specs.Lent.{grid_of, loan_of, IsPart, IsKept}
use Rattle.part_solves.specs.LineSystems.{AreLinesSolved}
use Rattle.part_solves.proofs.line_systems.LineSystem.solve_plainly.Given as goal

abbrev pub invariant-loop-line : goal.invariant-loop-line
invariant-loop-line l = record {
  loan : loan_of l.w ≡ loan_of l.fn.w;
  part : IsPart l.w;
  kept : IsKept l.fn.w l.w;
  solved : AreLinesSolved l.self 0 l.line (grid_of l.fn.w) (grid_of l.w);
}
