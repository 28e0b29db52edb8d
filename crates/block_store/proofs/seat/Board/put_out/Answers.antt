use Rattle.std.proofs.Common.{sym, subst}
use Rattle.block_store.specs.declared.view.View.{View}
use Rattle.block_store.specs.Plays.{Holds, IsRunning}
use Rattle.block_store.proofs.TopBlocks.{top-of}
use Rattle.block_store.proofs.seat.Board.put_out.Goals as goal

pub put-requires-clause-runs : goal.put-requires-clause-runs
put-requires-clause-runs c = subst (λ (v : View). IsRunning v c.args.t) (sym c.write.ensures.same.1) c.requires.runs

pub put-requires-clause-holds : goal.put-requires-clause-holds
put-requires-clause-holds c = subst (λ (v : View). Holds v c.args.block) (sym c.write.ensures.same.1) c.requires.holds

pub put-requires-clause-top : goal.put-requires-clause-top
put-requires-clause-top c = (c.args.buffer.now, top-of _ _ _ _ c.write.ensures.written, c.requires.left)
