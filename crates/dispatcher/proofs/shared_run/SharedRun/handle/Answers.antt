use Rattle.std.proofs.Common.{inl, inr, refl, subst, sym, ap, ◌∙◌}
use Rattle.block_store.specs.declared.view.Fact.TheVariants.{Claimed, Refused}
use Rattle.block_store.specs.declared.view.View.{View}
use Rattle.block_store.specs.Plays.{HasClaimed, NotBegun, NotEnded, NotPut}
use Rattle.block_store.specs.Seats.{view}
use Rattle.ready_queue.specs.declared.queue.Pass.{Pass}
use Rattle.ready_queue.specs.Queues as queues
use Rattle.dispatcher.specs.declared.worker.Worker.{Worker}
use Rattle.dispatcher.specs.Telling.{HasToldNone}
use Rattle.dispatcher.proofs.Handling.{facts-more, facts-then}
use Rattle.dispatcher.proofs.Pushes.{pushes-same, pushes-then}
use Rattle.dispatcher.proofs.StepViews.{begun-claimed, claimed-now, ended-claimed, put-claimed, untold-claimed}
use Rattle.dispatcher.proofs.ToldSteps.{told-events, told-free}
use Rattle.dispatcher.proofs.WorkerSteps.{same-seats, worker-claimed, worker-on, worker-refused}
use Rattle.dispatcher.proofs.shared_run.SharedRun.handle.Goals as goal

pub returns-then-not-claimed-clause-worker : goal.returns-then-not-claimed-clause-worker
returns-then-not-claimed-clause-worker g c =
    let a = c.args in
    let refused = c.claim-claimed.ensures.refused c.if-not-claimed.true in
    worker-refused a.self.now.board.now a.self.now.ready.now a.worker.now c.requires.worker c.claim-claimed.new.seat a.t refused.0 c.claim-claimed.ensures.same refused.2

pub carry_out-bad-requires-clause-worker : goal.carry_out-bad-requires-clause-worker
carry_out-bad-requires-clause-worker g c = λ κs within.
    let a = c.args in
    let claimed = c.claim-claimed.ensures.claimed c.if-not-claimed.false in
    worker-claimed a.self.now.board.now a.self.now.ready.now a.worker.now c.requires.worker c.claim-claimed.new.seat a.t c.claim-claimed.ensures.same claimed.0

pub carry_out-bad-requires-clause-claimed : goal.carry_out-bad-requires-clause-claimed
carry_out-bad-requires-clause-claimed g c = λ κs within.
    let claimed = c.claim-claimed.ensures.claimed c.if-not-claimed.false in
    subst (λ (v : View). HasClaimed v c.args.t) (sym claimed.0) (claimed-now c.args.t (view c.args.worker.now.seat))

pub carry_out-bad-requires-clause-begun : goal.carry_out-bad-requires-clause-begun
carry_out-bad-requires-clause-begun g c = λ κs within.
    let claimed = c.claim-claimed.ensures.claimed c.if-not-claimed.false in
    subst (λ (v : View). NotBegun v c.args.t) (sym claimed.0) (begun-claimed c.args.t (view c.args.worker.now.seat) claimed.1)

pub carry_out-bad-requires-clause-ended : goal.carry_out-bad-requires-clause-ended
carry_out-bad-requires-clause-ended g c = λ κs within.
    let claimed = c.claim-claimed.ensures.claimed c.if-not-claimed.false in
    subst (λ (v : View). NotEnded v c.args.t) (sym claimed.0) (ended-claimed c.args.t (view c.args.worker.now.seat) claimed.1)

pub carry_out-bad-requires-clause-put : goal.carry_out-bad-requires-clause-put
carry_out-bad-requires-clause-put g c = λ κs within.
    let claimed = c.claim-claimed.ensures.claimed c.if-not-claimed.false in
    subst (λ (v : View). NotPut v c.args.t) (sym claimed.0) (put-claimed c.args.t (view c.args.worker.now.seat) claimed.1)

pub carry_out-bad-requires-clause-fresh : goal.carry_out-bad-requires-clause-fresh
carry_out-bad-requires-clause-fresh g c = λ κs within.
    let claimed = c.claim-claimed.ensures.claimed c.if-not-claimed.false in
    subst (λ (v : View). HasToldNone c.args.t v) (sym claimed.0) (untold-claimed c.args.t (view c.args.worker.now.seat) claimed.1)

pub returns-clause-worker : goal.returns-clause-worker
returns-clause-worker g c =
    let a = c.args in
    let w : Worker = c.carry_out-bad.new.worker in
    let is = c.carry_out-bad.ensures.worker in
    let e = c.tell_all.ensures in
    worker-on a.self.now.board.now a.self.now.ready.now w is c.tell_all.new.seat c.tell_all.new.pass w.buffers e.same
    (told-events a.t (view w.seat) (view c.tell_all.new.seat) e.told) (λ x. told-free a.t x (view w.seat) (view c.tell_all.new.seat) e.told (is.free x))
    e.pass e.tied is.buffers

pub returns-clause-same : goal.returns-clause-same
returns-clause-same g c =
    let done = same-seats c.args.worker.now.seat c.claim-claimed.new.seat c.carry_out-bad.new.worker.seat c.claim-claimed.ensures.same.0 c.carry_out-bad.ensures.same in
    same-seats c.args.worker.now.seat c.carry_out-bad.new.worker.seat c.tell_all.new.seat done c.tell_all.ensures.same.0

pub returns-then-not-claimed-clause-handled : goal.returns-then-not-claimed-clause-handled
returns-then-not-claimed-clause-handled g c = let refused = c.claim-claimed.ensures.refused c.if-not-claimed.true in inl (refused.0, refused.2)

pub returns-clause-handled : goal.returns-clause-handled
returns-clause-handled g c = inr (record { bad = c.carry_out-bad.result; ended = c.tell_all.ensures.ended; told = c.tell_all.ensures.all })

pub returns-then-not-claimed-clause-pushes : goal.returns-then-not-claimed-clause-pushes
returns-then-not-claimed-clause-pushes g c = pushes-same c.args.worker.now.pass c.args.worker.now.pass refl

pub returns-clause-pushes : goal.returns-clause-pushes
returns-clause-pushes g c =
    let old = c.args.worker.now.pass in
    let done = c.carry_out-bad.new.worker.pass in
    pushes-then old done c.tell_all.new.pass (pushes-same old done c.carry_out-bad.ensures.pass) c.tell_all.ensures.pushes

pub returns-then-not-claimed-clause-facts : goal.returns-then-not-claimed-clause-facts
returns-then-not-claimed-clause-facts g c =
    let refused = c.claim-claimed.ensures.refused c.if-not-claimed.true in
    facts-more (view c.args.worker.now.seat) (view c.claim-claimed.new.seat) (Refused c.args.t refused.0) refused.2

pub returns-clause-facts : goal.returns-clause-facts
returns-clause-facts g c =
    let claimed = c.claim-claimed.ensures.claimed c.if-not-claimed.false in
    let told = c.tell_all.ensures.told in
    let start : View = view c.args.worker.now.seat in
    let own : View = view c.claim-claimed.new.seat in
    let done : View = view c.carry_out-bad.new.worker.seat in
    let over : View = view c.tell_all.new.seat in
    facts-then start own over (facts-more start own (Claimed c.args.t) claimed.0) (facts-then own done over c.carry_out-bad.ensures.facts (told.more, told.facts))

pub returns-clause-popped : goal.returns-clause-popped
returns-clause-popped g c = c.tell_all.ensures.popped ∙ ap (λ (p : Pass). (queues.view p).popped) c.carry_out-bad.ensures.pass
