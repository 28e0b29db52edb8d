use Rattle.std.proofs.Common.{◌≡◌, ◌-◌, ◌≤◌}
use Rattle.matrix_parts.specs.Lent.{grid_of, loan_of, IsPart, IsKept}
use Rattle.part_solves.specs.LineSystems.{AreLinesSolved}
use Rattle.part_solves.proofs.line_systems.LineSystem.solve_by_panels.Given as goal

abbrev pub invariant-loop-first : goal.invariant-loop-first
invariant-loop-first l = record {
  loan : loan_of l.w ≡ loan_of l.fn.w;
  part : IsPart l.w;
  kept : IsKept l.fn.w l.w;
  end : l.first ≤ l.all;
  solved : AreLinesSolved l.self 0 l.first (grid_of l.fn.w) (grid_of l.w);
}

abbrev pub decreases-loop-first : goal.decreases-loop-first
decreases-loop-first l = l.all - l.first
