use Rattle.std.proofs.Common.{◌≡◌, ℕ, ◌+◌, ◌*◌, ◌<◌, ◌≤◌}
use Rattle.residue_sums.specs.Residues.{Cong}
use Rattle.residue_sums.specs.Grids.{entry}
use Rattle.matrix_parts.specs.Lent.{grid_of, loan_of, IsPart, IsKept}
use Rattle.part_factors.specs.ColumnFactors.{AreRowsFound}
use Rattle.part_factors.proofs.columns.find_column.Given as goal

abbrev pub invariant-loop-i : goal.invariant-loop-i
invariant-loop-i l = record {
  loan : loan_of l.w ≡ loan_of l.fn.w;
  part : IsPart l.w;
  kept : IsKept l.fn.w l.w;
  residues : (a b : ℕ) → a < l.fn.w.rows → b < l.fn.w.cols → entry (grid_of l.w) a b < l.factoring.m;
  found : AreRowsFound l.factoring.m l.fn.w.rows l.factoring.kind l.i l.j (l.j + 1) (entry (grid_of l.fn.w)) (entry (grid_of l.w));
  small : l.scale < l.factoring.m;
  lower : l.j < l.i → Cong l.factoring.m (entry (grid_of l.w) l.j l.j * l.scale) 1;
  upper : l.i ≤ l.j → l.scale ≡ 1;
}
