use Rattle.std.proofs.Common.{ℕ, List, sym, ap, subst}
use Rattle.residue_sums.specs.Grids.{Grid}
use Rattle.block_store.specs.Parts.{IsInside}
use Rattle.block_store.proofs.TopBlocks.{same-top}
use Rattle.block_store.proofs.seat.Board.read.Goals as goal

pub copy_part-requires-clause-inside : goal.copy_part-requires-clause-inside
copy_part-requires-clause-inside c =
    let top = c.requires.top in
    subst (λ (g : Grid). IsInside c.args.part g.rows g.cols) (same-top _ _ _ _ _ top.1 c.slot_mut-slot.ensures.value) top.2

pub returns-clause-same : goal.returns-clause-same
returns-clause-same c = let s = c.args.seat.now.inner in ap (λ (blocks : List (ℕ × Grid)). record s { me = (s.me.0, blocks) }) (sym c.slot_mut-slot.ensures.value)

pub returns-clause-read : goal.returns-clause-read
returns-clause-read c = (c.slot_mut-slot.result.now, c.slot_mut-slot.ensures.value, c.copy_part.ensures.copied)
