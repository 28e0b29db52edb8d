use Rattle.std.proofs.Common.{length, sym, ap, ◌∙◌}
use Rattle.residue_sums.specs.Grids.{Grid, with_entry}
use Rattle.matrix_parts.proofs.Back.{whole_back}
use Rattle.matrix_parts.proofs.tests.set_corner.Goals as goal

pub returns : goal.returns
returns c =
    let lent = c.entries-1.given in let part = c.whole_of-part.ensures in let kept = c.set.ensures.kept in
    whole_back c.args.m.now lent.0 c.set.new.self c.entries_mut-entries.ensures.full (lent.1.0 ∙ ap length c.entries_mut-entries.ensures.entries)
    (lent.1.1 (sym part.loan ∙ sym c.set.ensures.loan)) (kept.first ∙ part.first) (kept.stride ∙ part.stride ∙ c.cols-cols.ensures.cols) (kept.rows ∙ part.rows ∙ c.rows-rows.ensures.rows) (kept.cols ∙ part.cols ∙ c.cols-cols.ensures.cols)
    ∙ c.set.ensures.grid
    ∙ ap (λ (g : Grid). with_entry g 0 0 7) (part.grid ∙ (λ k. record { rows = c.rows-rows.ensures.rows k; cols = c.cols-cols.ensures.cols k; entries = c.entries_mut-entries.ensures.entries k }))
