use Rattle.std.proofs.Common.{List, sym, subst}
use Rattle.residue_sums.specs.Grids.{Grid}
use Rattle.block_store.specs.Holding.{HaveLast}
use Rattle.block_store.proofs.Closing.{last}
use Rattle.block_store.proofs.seat.Board.close.Goals as goal

pub returns : goal.returns
returns c = subst (λ (blocks : List Grid). HaveLast c.args.self.table.shared.key blocks) (sym c.taken_out-blocks.ensures)
    (last c.args.self.table.shared.key c.args.seat.inner.id c.args.seat.inner.me.0 c.requires.all c.requires.ended c.requires.free _ _ c.close_with.ensures.values.2)
