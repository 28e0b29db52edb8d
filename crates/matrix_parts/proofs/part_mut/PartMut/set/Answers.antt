use Rattle.std.proofs.Common.{◌+◌, ◌*◌, inl, inr, length-set, get_or-set_other, refl, ap, ◌∙◌}
use Rattle.residue_sums.specs.Grids.{Grid, entry}
use Rattle.residue_sums.proofs.Grids.{entry-with_entry_same, entry-with_entry_other_row, entry-with_entry_other_col}
use Rattle.matrix_parts.specs.Lent.{grid_of}
use Rattle.matrix_parts.proofs.Rects.{rect-set, IsFull-rect}
use Rattle.matrix_parts.proofs.part_mut.PartMut.set.Goals as goal

pub returns-clause-grid : goal.returns-clause-grid
returns-clause-grid c = rect-set c.args.self.now.entries.now c.args.self.now.first c.args.self.now.stride c.args.self.now.rows c.args.self.now.cols c.requires.part c.args.i c.args.j c.args.v c.requires.row_in c.requires.col_in

pub returns-clause-here : goal.returns-clause-here
returns-clause-here c =
    ap (λ (g : Grid). entry g c.args.i c.args.j) (returns-clause-grid c)
    ∙ entry-with_entry_same (grid_of c.args.self.now) c.args.i c.args.j c.args.v (IsFull-rect c.args.self.now.entries.now c.args.self.now.first c.args.self.now.stride c.args.self.now.rows c.args.self.now.cols) c.requires.row_in c.requires.col_in

pub returns-clause-others : goal.returns-clause-others
returns-clause-others c a b row col apart = ap (λ (g : Grid). entry g a b) (returns-clause-grid c) ∙ (elim apart [
  | inl other ↦ entry-with_entry_other_row (grid_of c.args.self.now) c.args.i c.args.j c.args.v a b c.requires.col_in col other
  | inr other ↦ entry-with_entry_other_col (grid_of c.args.self.now) c.args.i c.args.j c.args.v a b c.requires.col_in col other
])

pub returns-clause-kept : goal.returns-clause-kept
returns-clause-kept c = record {
  first = refl;
  stride = refl;
  rows = refl;
  cols = refl;
  len = simp length-set;
  around = λ at apart. get_or-set_other c.args.self.now.entries.now (c.args.self.now.first + c.args.i * c.args.self.now.stride + c.args.j) at c.args.v 0
      (apart c.args.i c.args.j c.requires.row_in c.requires.col_in);
}
