use Rattle.std.proofs.Common.{sym, ◌∙◌, subst}
use Rattle.block_store.specs.Blocks.{block_cols, block_rows, IsFound}
use Rattle.block_store.specs.Seats.{key_of}
use Rattle.dispatcher.proofs.Tries.{numbers-back}
use Rattle.dispatcher.proofs.shared_run.SharedRun.copy_block.Goals as goal

pub returns-clause-found : goal.returns-clause-found
returns-clause-found g c =
    let key = key_of c.args.self.now.board.now in
    let lent = c.entries-1.given in
    let made = c.whole_of-part.ensures in
    let did = c.copy_whole.ensures in
    subst (IsFound key c.args.t c.args.x)
    (numbers-back lent.0 (block_rows key c.args.x) (block_cols key c.args.x) c.whole_of-part.result c.copy_whole.new.buffer made.first (made.stride ∙ c.size-size.ensures.cols)
    (made.rows ∙ c.size-size.ensures.rows) (made.cols ∙ c.size-size.ensures.cols) did.kept (lent.1.1 (sym made.loan ∙ sym did.loan)) (lent.1.0 ∙ c.requires.room))
    did.found
