use Rattle.std.proofs.Common.{ℕ, get_or, sym, ap, ◌∙◌}
use Rattle.matrix_parts.proofs.Rects.{entry-rect}
use Rattle.matrix_parts.proofs.Regions.{covers-place}
use Rattle.matrix_parts.proofs.Panels.{begin, place-begin}
use Rattle.matrix_parts.proofs.panel_mut.PanelMut.get.Goals as goal

pub read-requires-clause-covered : goal.read-requires-clause-covered
read-requires-clause-covered c =
    let r = c.args.self.now.region in
    rw (c.requires.panel.region, c.place-at.ensures) (covers-place r c.args.i c.args.j c.requires.row_in c.requires.col_in c.requires.panel.apart)

pub returns : goal.returns
returns c =
    let r = c.args.self.now.region in let xs = c.args.self.now.lent.numbers in
    c.read.ensures ∙ ap (λ (p : ℕ). get_or xs p 0) (c.place-at.ensures ∙ sym (place-begin r c.args.i c.args.j)) ∙ sym (entry-rect xs (begin r) r.stride r.rows r.cols c.args.i c.args.j c.requires.row_in c.requires.col_in)
