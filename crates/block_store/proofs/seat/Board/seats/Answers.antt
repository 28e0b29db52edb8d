use Rattle.std.proofs.Common.{◌+◌, sym, subst, rules}
use Rattle.block_store.specs.Seats.{view, AreNewSeats}
use Rattle.block_store.proofs.NewSeats.{AreSoFar, one-more, all-cut}
use Rattle.block_store.proofs.seat.Board.seats.Goals as goal

pub loop-preserved : goal.loop-preserved
loop-preserved c = subst (AreSoFar c.args.self.now c.args.workers (view c.args.seat).workers (c.loop.counter + 1) c.split-first.new.seat) (sym c.in_ok-push.ensures.items)
    (one-more c.args.self.now c.args.workers (view c.args.seat).workers c.loop.counter c.loop.last c.split-first.new.seat c.split-first.result c.loop.seats.items c.loop.invariant
    c.split-first.ensures.old c.split-first.ensures.new)

pub returns : goal.returns
returns c = subst (AreNewSeats c.args.self.now c.args.workers (view c.args.seat).workers) (sym c.in_ok-push-2.ensures.items)
    (all-cut c.args.self.now c.args.workers (view c.args.seat).workers c.loop.counter c.loop.last c.loop.seats.items c.loop.invariant (let no_more = c.loop-test.false in search rules))
