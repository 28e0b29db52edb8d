use Rattle.std.proofs.Common.{◌≡◌, ◌-◌, ◌≤◌}
use Rattle.matrix_parts.specs.Lent.{grid_of, loan_of, IsPart, IsKept}
use Rattle.part_solves.specs.SylvesterSystems.{AreColumnsSolved}
use Rattle.part_solves.proofs.sylvester.SylvesterSystem.solve_by_pieces.Given as goal

abbrev pub invariant-loop-at : goal.invariant-loop-at
invariant-loop-at l = record {
  loan : loan_of l.w ≡ loan_of l.fn.w;
  part : IsPart l.w;
  kept : IsKept l.fn.w l.w;
  end : l.at ≤ l.cols;
  solved : AreColumnsSolved l.self 0 l.at (grid_of l.fn.w) (grid_of l.w);
}

abbrev pub decreases-loop-at : goal.decreases-loop-at
decreases-loop-at l = l.cols - l.at
