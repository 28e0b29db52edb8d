use Rattle.std.proofs.Common.{◌≡◌, ℕ, ◌-◌, ◌<◌, ◌≤◌}
use Rattle.residue_sums.specs.Grids.{entry}
use Rattle.matrix_parts.specs.Lent.{grid_of, loan_of, IsPart, IsKept}
use Rattle.part_factors.specs.ColumnFactors.{AreRowsFound}
use Rattle.part_factors.proofs.pieces.find_with.Given as goal

abbrev pub invariant-loop-from : goal.invariant-loop-from
invariant-loop-from l = record {
  loan : loan_of l.w ≡ loan_of l.fn.w;
  part : IsPart l.w;
  kept : IsKept l.fn.w l.w;
  end : l.from ≤ l.cols;
  residues : (a b : ℕ) → a < l.fn.w.rows → b < l.fn.w.cols → entry (grid_of l.w) a b < l.factoring.m;
  found : AreRowsFound l.factoring.m l.fn.w.rows l.factoring.kind l.fn.w.rows 0 l.from (entry (grid_of l.fn.w)) (entry (grid_of l.w));
}

abbrev pub decreases-loop-from : goal.decreases-loop-from
decreases-loop-from l = l.cols - l.from
