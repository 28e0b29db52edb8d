use Rattle.std.proofs.Common.{sym, ap, ◌∙◌}
use Rattle.residue_sums.specs.Grids.{Grid}
use Rattle.block_store.proofs.TopBlocks.{same-top}
use Rattle.block_store.proofs.seat.Board.write.Goals as goal

pub write_over-requires-clause-rows : goal.write_over-requires-clause-rows
write_over-requires-clause-rows c =
    let top = c.requires.top in
    sym (ap (λ (g : Grid). g.rows) (same-top _ _ _ _ _ top.1 c.slot_mut-slot.ensures.value)) ∙ top.2

pub write_over-requires-clause-cols : goal.write_over-requires-clause-cols
write_over-requires-clause-cols c =
    let top = c.requires.top in
    sym (ap (λ (g : Grid). g.cols) (same-top _ _ _ _ _ top.1 c.slot_mut-slot.ensures.value)) ∙ top.3
