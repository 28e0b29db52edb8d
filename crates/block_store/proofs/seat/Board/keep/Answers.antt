use Rattle.std.proofs.Common.{rules}
use Rattle.block_store.proofs.TopBlocks.{inside-found, top-of}
use Rattle.block_store.proofs.seat.Board.keep.Goals as goal

pub read-requires-clause-top : goal.read-requires-clause-top
read-requires-clause-top c =
    let t = c.take.ensures.taken (search rules) in
    (t.1.0, top-of _ _ _ _ t.1.1, inside-found c.args.self.now.table.shared.key c.args.t c.args.block c.args.part t.1.0 c.requires.shapes c.requires.inside t.1.2)
