use Rattle.std.proofs.Common.{ℕ, sym, subst, arith}
use Rattle.ready_queue.specs.PassViews.{IsStepNumber}
use Rattle.ready_queue.proofs.PushesAndPops.{pushes, room}
use Rattle.ready_queue.proofs.queue.Ready.push.Goals as goal

pub push_as-requires-clause-rule : goal.push_as-requires-clause-rule
push_as-requires-clause-rule g c =
    let pass = c.requires.pass in
    (pushes _ _ _ _ (omega (arith, pass.parts_are)) (omega (arith, pass.callers_are, c.args.self.now.called)) (subst (λ (n : ℕ). IsStepNumber n c.args.t) (sym pass.steps_are) c.requires.step) c.requires.fresh, room _ _)
