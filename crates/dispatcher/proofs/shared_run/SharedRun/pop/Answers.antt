use Rattle.std.proofs.Common.{ℕ, subst}
use Rattle.std.specs.Prelude.{IfSome}
use Rattle.ready_queue.specs.PassViews.{IsStepNumber}
use Rattle.dispatcher.proofs.Handling.{popped-none, popped-one}
use Rattle.dispatcher.proofs.Pushes.{pushes-popped}
use Rattle.dispatcher.proofs.SharedKeys.{shared-queue}
use Rattle.dispatcher.proofs.WorkerSteps.{worker-popped}
use Rattle.dispatcher.proofs.shared_run.SharedRun.pop.Goals as goal

pub returns-clause-worker : goal.returns-clause-worker
returns-clause-worker g c =
    let a = c.args in
    worker-popped a.self.now.board.now a.self.now.ready.now a.worker.now c.requires.worker c.pop.new.pass c.pop.result c.pop.ensures.pass c.pop.ensures.popped
    c.pop.ensures.none

pub returns-clause-step : goal.returns-clause-step
returns-clause-step g c = subst (λ (n : ℕ). IfSome c.pop.result (λ t. IsStepNumber n t)) (shared-queue c.args.self.now c.requires.shared) c.pop.ensures.step

pub returns-clause-pushes : goal.returns-clause-pushes
returns-clause-pushes g c = pushes-popped c.pop.result c.args.worker.now.pass c.pop.new.pass c.pop.ensures.popped c.pop.ensures.none

pub returns-clause-popped : goal.returns-clause-popped
returns-clause-popped g c = popped-one c.pop.result c.args.worker.now.pass c.pop.new.pass c.pop.ensures.popped

pub returns-clause-none : goal.returns-clause-none
returns-clause-none g c = popped-none c.pop.result c.args.worker.now.pass c.pop.new.pass c.pop.ensures.none
