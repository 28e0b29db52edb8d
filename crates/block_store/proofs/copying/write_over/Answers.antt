use Rattle.std.proofs.Common.{length, sym, ap, ◌∙◌}
use Rattle.matrix_parts.proofs.Back.{whole_back}
use Rattle.block_store.proofs.copying.write_over.Goals as goal

pub returns : goal.returns
returns c =
    let lent = c.entries-1.given in
    let made = c.whole_of-w.ensures in
    let wrote = c.copy_rows.ensures in
    whole_back c.args.matrix.now lent.0 c.copy_rows.new.to c.entries_mut-entries.ensures.full (lent.1.0 ∙ ap length c.entries_mut-entries.ensures.entries)
    (lent.1.1 (sym made.loan ∙ sym wrote.loan)) (wrote.kept.first ∙ made.first) (wrote.kept.stride ∙ made.stride ∙ c.cols-cols.ensures.cols)
    (wrote.kept.rows ∙ made.rows ∙ c.rows-rows.ensures.rows) (wrote.kept.cols ∙ made.cols ∙ c.cols-cols.ensures.cols)
    ∙ wrote.copied
