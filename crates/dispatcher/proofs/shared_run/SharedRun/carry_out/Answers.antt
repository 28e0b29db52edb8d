use Rattle.std.proofs.Common.{Bool, subst, sym, ◌∙◌}
use Rattle.block_store.specs.declared.view.Fact.TheVariants.{Began, Ended}
use Rattle.block_store.specs.declared.view.View.{View}
use Rattle.block_store.specs.Plays.{HasClaimed, IsRunning}
use Rattle.block_store.specs.Keys.{is_bad}
use Rattle.block_store.specs.Seats.{key_of, view}
use Rattle.ready_queue.specs.Queues as queues
use Rattle.dispatcher.specs.declared.worker.Worker.{Worker}
use Rattle.dispatcher.specs.Telling.{HasEndedAs, HasToldNone}
use Rattle.dispatcher.proofs.Handling.{facts-more, facts-then}
use Rattle.dispatcher.proofs.MovedBlocks.{moved-begun, moved-events, moved-tied, moved-unended, moved-untold}
use Rattle.dispatcher.proofs.StepViews.{claimed-begun, running-begun, untold-begun, untold-ended}
use Rattle.dispatcher.proofs.ToldSteps.{ended-as}
use Rattle.dispatcher.proofs.WorkerSteps.{same-seats, worker-on}
use Rattle.dispatcher.proofs.shared_run.SharedRun.carry_out.Goals as goal

pub do_step-outcome-requires-clause-claimed : goal.do_step-outcome-requires-clause-claimed
do_step-outcome-requires-clause-claimed g c = λ κs within.
    let b = c.begin.ensures.begun in
    subst (λ (v : View). HasClaimed v c.args.t) (sym b.1) (claimed-begun c.args.t c.args.t b.0 (view c.args.worker.now.seat) c.requires.claimed)

pub do_step-outcome-requires-clause-runs : goal.do_step-outcome-requires-clause-runs
do_step-outcome-requires-clause-runs g c = λ κs within.
    let b = c.begin.ensures.begun in
    subst (λ (v : View). IsRunning v c.args.t) (sym b.1) (running-begun c.args.t b.0 (view c.args.worker.now.seat) c.requires.ended c.requires.put)

pub end-requires-clause-worker : goal.end-requires-clause-worker
end-requires-clause-worker g c =
    let a = c.args in
    let d = c.do_step-outcome in
    let w : Worker = c.begin.new.worker in
    let is = c.begin.ensures.worker in
    worker-on a.self.now.board.now a.self.now.ready.now w is d.new.seat w.pass d.new.buffers d.ensures.same
    (moved-events a.t (view w.seat) (view d.new.seat) d.ensures.moved) d.ensures.free is.pass
    (moved-tied a.t (view w.seat) (view d.new.seat) d.ensures.moved (key_of a.self.now.board.now) (queues.view w.pass) is.tied) d.ensures.buffers

pub end-requires-clause-begun : goal.end-requires-clause-begun
end-requires-clause-begun g c =
    let d = c.do_step-outcome in
    let b = c.begin.ensures.begun in
    let runs : IsRunning (view c.begin.new.worker.seat) c.args.t
    = subst (λ (v : View). IsRunning v c.args.t) (sym b.1) (running-begun c.args.t b.0 (view c.args.worker.now.seat) c.requires.ended c.requires.put) in
    moved-begun c.args.t (view c.begin.new.worker.seat) (view d.new.seat) d.ensures.moved c.args.t runs.begun

pub end-requires-clause-ended : goal.end-requires-clause-ended
end-requires-clause-ended g c =
    let d = c.do_step-outcome in
    let b = c.begin.ensures.begun in
    let runs : IsRunning (view c.begin.new.worker.seat) c.args.t
    = subst (λ (v : View). IsRunning v c.args.t) (sym b.1) (running-begun c.args.t b.0 (view c.args.worker.now.seat) c.requires.ended c.requires.put) in
    moved-unended c.args.t (view c.begin.new.worker.seat) (view d.new.seat) d.ensures.moved c.args.t runs.unended

pub returns-clause-same : goal.returns-clause-same
returns-clause-same g c =
    let moved = same-seats c.args.worker.now.seat c.begin.new.worker.seat c.do_step-outcome.new.seat c.begin.ensures.same c.do_step-outcome.ensures.same.0 in
    same-seats c.args.worker.now.seat c.do_step-outcome.new.seat c.end.new.worker.seat moved c.end.ensures.same

pub returns-clause-ended : goal.returns-clause-ended
returns-clause-ended g c =
    let t = c.args.t in
    let e = c.end.ensures.ended in
    subst (λ (bad : Bool). HasEndedAs bad t (view c.end.new.worker.seat)) (sym c.is_stopped.ensures)
    (subst (λ (v : View). HasEndedAs (is_bad c.do_step-outcome.result) t v) (sym e.1) (ended-as t e.0 c.do_step-outcome.result (view c.do_step-outcome.new.seat)))

pub returns-clause-fresh : goal.returns-clause-fresh
returns-clause-fresh g c =
    let t = c.args.t in
    let b = c.begin.ensures.begun in
    let d = c.do_step-outcome in
    let e = c.end.ensures.ended in
    let begun : HasToldNone t (view c.begin.new.worker.seat)
    = subst (λ (v : View). HasToldNone t v) (sym b.1) (untold-begun t t b.0 (view c.args.worker.now.seat) c.requires.fresh) in
    let moved = moved-untold t (view c.begin.new.worker.seat) (view d.new.seat) d.ensures.moved t begun in
    subst (λ (v : View). HasToldNone t v) (sym e.1) (untold-ended t t e.0 d.result (view d.new.seat) moved)

pub returns-clause-pass : goal.returns-clause-pass
returns-clause-pass g c = c.end.ensures.pass ∙ c.begin.ensures.pass

pub returns-clause-facts : goal.returns-clause-facts
returns-clause-facts g c =
    let t = c.args.t in
    let b = c.begin.ensures.begun in
    let d = c.do_step-outcome in
    let e = c.end.ensures.ended in
    let start : View = view c.args.worker.now.seat in
    let begun : View = view c.begin.new.worker.seat in
    let done : View = view d.new.seat in
    let ended : View = view c.end.new.worker.seat in
    facts-then start begun ended (facts-more start begun (Began t b.0) b.1)
    (facts-then begun done ended (d.ensures.moved.more, d.ensures.moved.facts) (facts-more done ended (Ended t e.0 d.result) e.1))
