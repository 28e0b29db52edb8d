use Rattle.std.proofs.Common.{ap, refl, arith}
use Rattle.block_store.specs.declared.view.View.{View}
use Rattle.block_store.specs.Seats.{key_of, view}
use Rattle.dispatcher.proofs.Handling.{handled-none}
use Rattle.dispatcher.proofs.Pushes.{pushes-same}
use Rattle.dispatcher.proofs.SharedKeys.{shared-count}
use Rattle.dispatcher.proofs.WorkerSteps.{worker-timed}
use Rattle.dispatcher.proofs.shared_run.SharedRun.is_over.Goals as goal

pub returns-then-clock-self-clause-worker : goal.returns-then-clock-self-clause-worker
returns-then-clock-self-clause-worker c =
    let a = c.args in
    worker-timed a.self.now.board.now a.self.now.ready.now a.worker.now c.requires.worker c.clock-clock.new.seat c.clock-clock.result c.clock-clock.ensures.same
    c.clock-clock.ensures.view

pub returns-clause-worker : goal.returns-clause-worker
returns-clause-worker c =
    let a = c.args in
    worker-timed a.self.now.board.now a.self.now.ready.now a.worker.now c.requires.worker c.clock-clock.new.seat c.clock-clock.result c.clock-clock.ensures.same
    c.clock-clock.ensures.view

pub returns-clause-over : goal.returns-clause-over
returns-clause-over c = λ over.
    let a = c.args in
    let now = c.clock-clock in
    record {
      worker = worker-timed a.self.now.board.now a.self.now.ready.now a.worker.now c.requires.worker now.new.seat now.result now.ensures.same now.ensures.view;
      same = now.ensures.same.0;
      pushes = pushes-same a.worker.now.pass a.worker.now.pass refl;
      handled = handled-none (key_of a.self.now.board.now) a.worker.now.pass a.worker.now.pass (view now.new.seat) refl;
      ended = omega (arith, ap (λ (v : View). v.clock) now.ensures.view, c.if-clock-self.false, shared-count a.self.now c.requires.shared);
    }

pub returns-then-clock-self-clause-facts : goal.returns-then-clock-self-clause-facts
returns-then-clock-self-clause-facts c = ap (λ (v : View). v.facts) c.clock-clock.ensures.view

pub returns-clause-facts : goal.returns-clause-facts
returns-clause-facts c = ap (λ (v : View). v.facts) c.clock-clock.ensures.view
