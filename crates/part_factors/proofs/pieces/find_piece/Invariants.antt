use Rattle.std.proofs.Common.{◌≡◌, ℕ, ◌+◌, ◌*◌, ◌<◌, length, slice_index}
use Rattle.residue_sums.specs.Residues.{Cong}
use Rattle.residue_sums.specs.Grids.{entry}
use Rattle.matrix_parts.specs.Lent.{grid_of, loan_of, IsPart, IsKept}
use Rattle.part_factors.specs.ColumnFactors.{IsPanel, AreRowsFound}
use Rattle.part_factors.specs.PanelRows.{in_panel}
use Rattle.part_factors.proofs.pieces.find_piece.Given as goal

abbrev pub invariant-loop-i : goal.invariant-loop-i
invariant-loop-i l = record {
  loan : loan_of l.w ≡ loan_of l.fn.w;
  part : IsPart l.w;
  kept : IsKept l.fn.w l.w;
  residues : (a b : ℕ) → a < l.fn.w.rows → b < l.fn.w.cols → entry (grid_of l.w) a b < l.factoring.m;
  found : AreRowsFound l.factoring.m l.fn.w.rows l.factoring.kind l.i l.from (l.from + length l.fn.values) (entry (grid_of l.fn.w)) (entry (grid_of l.w));
  small : (j : ℕ) → j < length l.fn.values → slice_index l.inverses j < l.factoring.m;
  inverts : (j : ℕ) → j < length l.fn.values → l.from + j < l.i → Cong l.factoring.m (entry (grid_of l.w) (l.from + j) (l.from + j) * slice_index l.inverses j) 1;
  panel : IsPanel l.factoring.kind l.factoring.m l.from (length l.fn.values) l.i (in_panel l.panel l.height 0) (entry (grid_of l.w));
}
