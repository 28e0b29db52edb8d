use Rattle.std.proofs.Common.{◌≡◌, ℕ, ◌<◌}
use Rattle.residue_sums.specs.Grids.{entry}
use Rattle.matrix_parts.specs.Lent.{grid_of, loan_of, IsPart, IsKept}
use Rattle.part_factors.specs.ColumnFactors.{AreRowsFound}
use Rattle.part_factors.proofs.columns.find_by_columns.Given as goal

abbrev pub invariant-loop-j : goal.invariant-loop-j
invariant-loop-j l = record {
  loan : loan_of l.w ≡ loan_of l.fn.w;
  part : IsPart l.w;
  kept : IsKept l.fn.w l.w;
  residues : (a b : ℕ) → a < l.fn.w.rows → b < l.fn.w.cols → entry (grid_of l.w) a b < l.factoring.m;
  found : AreRowsFound l.factoring.m l.fn.w.rows l.factoring.kind l.fn.w.rows 0 l.j (entry (grid_of l.fn.w)) (entry (grid_of l.w));
}
