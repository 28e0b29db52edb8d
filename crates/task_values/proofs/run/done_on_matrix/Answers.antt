use Rattle.std.proofs.Common.{◌≡◌, length, sym, ap, subst, ◌∙◌}
use Rattle.residue_sums.specs.Grids.{Grid}
use Rattle.matrix_parts.specs.Lent.{grid_of}
use Rattle.task_values.specs.AnyTasks.{IsDoneSo}
use Rattle.task_values.proofs.WrittenBlocks.{grid_lent, grid_written}
use Rattle.task_values.proofs.run.done_on_matrix.Goals as goal

pub returns-clause-outcome : goal.returns-clause-outcome
returns-clause-outcome c =
    let lent = c.entries-1.given in
    let w = c.whole_of-w.ensures in
    let done = c.done_on_part-bad.ensures in
    let before : grid_of c.whole_of-w.result ≡ c.args.block
    = w.grid ∙ grid_lent c.args.block _ _ _ c.rows-rows.ensures.rows c.cols-cols.ensures.cols c.entries_mut-entries.ensures.entries in
    let after = grid_written c.args.block lent.0 c.whole_of-w.result c.done_on_part-bad.new.w _ _ c.entries_mut-entries.ensures.full (lent.1.0 ∙ ap length c.entries_mut-entries.ensures.entries)
    (lent.1.1 (sym w.loan ∙ sym done.loan)) c.rows-rows.ensures.rows c.cols-cols.ensures.cols w.first w.stride w.rows w.cols done.kept in
    subst (λ (p : Grid × Grid). IsDoneSo c.args.task.now p.0 p.1 c.done_on_part-bad.result) (λ k. (before k, after k)) done.outcome
