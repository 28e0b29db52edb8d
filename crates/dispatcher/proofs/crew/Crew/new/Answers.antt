use Rattle.std.proofs.Common.{◌≡◌, List, sym, subst, arith}
use Rattle.block_store.specs.Seats.{key_of}
use Rattle.ready_queue.specs.Queues.{callers_of}
use Rattle.dispatcher.specs.declared.worker.Worker.{Worker}
use Rattle.dispatcher.proofs.NewWorkers.{AreSoFar, next-pass, next-seat, none-yet, one-more}
use Rattle.dispatcher.proofs.crew.Crew.new.Goals as goal

pub loop-seat-init : goal.loop-seat-init
loop-seat-init c =
    let board = c.args.board.now in
    let ready = c.in_ok-ready.ready in
    let callers : callers_of ready ≡ (key_of board).workers = omega (arith, c.in_ok-ready.ensures.sizes, c.len-count.ensures, c.args.seats.ok.0, c.requires.seats.many) in
    subst (λ (workers : List Worker). AreSoFar board ready workers c.args.seats.items c.in_ok-ready.passes.items) (sym c.in_ok-workers.ensures.items)
    (none-yet board ready c.args.seats.items c.in_ok-ready.passes.items c.requires.seats c.in_ok-ready.ensures.passes callers)

pub new-requires-in-Some-clause-seat : goal.new-requires-in-Some-clause-seat
new-requires-in-Some-clause-seat c =
    next-seat c.args.board.now c.in_ok-ready.ready c.loop-seat.workers.items c.loop-seat.seats.items c.pop.new.self.items c.loop-seat.passes.items c.in-Some.seat c.loop-seat.invariant c.in-Some.ensures.items

pub loop-seat-preserved : goal.loop-seat-preserved
loop-seat-preserved c =
    let board = c.args.board.now in
    let ready = c.in_ok-ready.ready in
    let l = c.loop-seat in
    let fewer = c.pop.new.self.items in
    let left = c.pop-in-Some.new.self.items in
    let seats_are = c.in-Some.ensures.items in
    let passes_are = c.in-Some-pop.ensures.items in
    let pass = next-pass board ready l.workers.items l.seats.items fewer l.passes.items c.in-Some.seat l.invariant seats_are left c.in-Some-pop.pass passes_are in
    one-more board ready l.workers.items l.seats.items fewer l.passes.items c.in-Some.seat l.invariant seats_are left c.in-Some-pop.pass passes_are
    c.in_ok-worker.worker c.push.new.self.items (c.in_ok-worker.ensures.new ready pass) c.in_ok-worker.ensures.same c.in_ok-push.ensures.items
