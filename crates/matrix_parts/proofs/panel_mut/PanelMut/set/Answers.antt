use Rattle.std.proofs.Common.{inl, inr, ap, ◌∙◌}
use Rattle.residue_sums.specs.Grids.{Grid, entry}
use Rattle.residue_sums.proofs.Grids.{entry-with_entry_same, entry-with_entry_other_row, entry-with_entry_other_col}
use Rattle.matrix_parts.specs.declared.region.Lent.{Lent}
use Rattle.matrix_parts.specs.Panels.{panel_grid, region_in}
use Rattle.matrix_parts.proofs.Rects.{IsFull-rect}
use Rattle.matrix_parts.proofs.Regions.{covers-place}
use Rattle.matrix_parts.proofs.Panels.{begin, IsWithin-panel, region-set}
use Rattle.matrix_parts.proofs.panel_mut.PanelMut.set.Goals as goal

pub write-requires-clause-covered : goal.write-requires-clause-covered
write-requires-clause-covered c =
    let r = c.args.self.now.region in
    rw (c.requires.panel.region, c.place-at.ensures) (covers-place r c.args.i c.args.j c.requires.row_in c.requires.col_in c.requires.panel.apart)

pub returns-clause-grid : goal.returns-clause-grid
returns-clause-grid c =
    let p = c.args.self.now in
    ap (λ (l : Lent). region_in p.region l.numbers) c.write.ensures
    ∙ region-set p.region p.lent.numbers c.args.i c.args.j c.args.v c.place-at.result (IsWithin-panel p c.requires.panel) c.requires.row_in c.requires.col_in c.place-at.ensures

pub returns-clause-here : goal.returns-clause-here
returns-clause-here c =
    let p = c.args.self.now in let r = p.region in
    ap (λ (g : Grid). entry g c.args.i c.args.j) (returns-clause-grid c)
    ∙ entry-with_entry_same (panel_grid p) c.args.i c.args.j c.args.v (IsFull-rect p.lent.numbers (begin r) r.stride r.rows r.cols) c.requires.row_in c.requires.col_in

pub returns-clause-others : goal.returns-clause-others
returns-clause-others c a b row col apart = ap (λ (g : Grid). entry g a b) (returns-clause-grid c) ∙ (elim apart [
  | inl other ↦ entry-with_entry_other_row (panel_grid c.args.self.now) c.args.i c.args.j c.args.v a b c.requires.col_in col other
  | inr other ↦ entry-with_entry_other_col (panel_grid c.args.self.now) c.args.i c.args.j c.args.v a b c.requires.col_in col other
])
