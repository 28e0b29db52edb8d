use Rattle.std.proofs.Common.{◌≡◌, ◌≢◌, ◌+◌, ◌∷◌, sym, ap, ◌∙◌, subst, arith}
use Rattle.block_store.specs.Keys.{preds}
use Rattle.block_store.specs.Seats.{key_of}
use Rattle.ready_queue.specs.declared.pass_view.PassView.{PassView}
use Rattle.ready_queue.specs.declared.queue.Pass.{Pass}
use Rattle.ready_queue.specs.Queues as queues
use Rattle.dispatcher.proofs.SharedKeys.{shared-count}
use Rattle.dispatcher.proofs.FirstSteps.{AreRoots, shared-preds, roots-more, roots-none, roots-skip}
use Rattle.dispatcher.proofs.shared_run.SharedRun.push_first.Goals as goal
use Rattle.dispatcher.proofs.shared_run.SharedRun.push_first.Goals.{then-preds-eq0, else-preds-eq0}

pub loop-n-init : goal.loop-n-init
loop-n-init g c = (c.requires.pass.of, roots-none (key_of c.args.self.now.board.now) (queues.view c.args.pass.now).pushed c.requires.pass.pushed)

pub push-requires-clause-pass : goal.push-requires-clause-pass
push-requires-clause-pass g c = c.loop-n.invariant.0

pub push-requires-clause-fresh : goal.push-requires-clause-fresh
push-requires-clause-fresh g c = c.loop-n.invariant.1.later (c.loop-n.n + 1) (omega arith)

pub loop-n-preserved : goal.loop-n-preserved
loop-n-preserved g c =
    let key = key_of c.args.self.now.board.now in
    let n = c.loop-n.n in
    let pushed = (queues.view c.loop-n.pass).pushed in
    elim c.if-preds-eq0.branch [
      | then-preds-eq0 w ↦
          let none : preds key (n + 1) ≡ 0 = sym (shared-preds c.args.self.now c.requires.shared (n + 1)) ∙ sym c.preds.ensures ∙ w.if-preds-eq0.true in
          let more : (queues.view w.push.new.pass).pushed ≡ (n + 1) ∷ pushed = ap (λ (h : PassView). h.pushed) w.push.ensures.pushed in
          subst (λ (p : Pass). queues.IsPassOf c.args.self.now.ready.now p × AreRoots key (n + 1) (queues.view p).pushed) (sym w.pass-is)
          (w.push.ensures.pass, roots-more key n pushed (queues.view w.push.new.pass).pushed none more c.loop-n.invariant.1)
      | else-preds-eq0 w ↦
          let some : preds key (n + 1) ≢ 0 = λ none. w.if-preds-eq0.false (c.preds.ensures ∙ (shared-preds c.args.self.now c.requires.shared (n + 1) ∙ none)) in
          subst (λ (p : Pass). queues.IsPassOf c.args.self.now.ready.now p × AreRoots key (n + 1) (queues.view p).pushed) (sym w.pass-is)
          (c.loop-n.invariant.0, roots-skip key n pushed some c.loop-n.invariant.1)
    ]

pub returns-clause-first : goal.returns-clause-first
returns-clause-first g c = c.loop-n.invariant.1.roots

pub returns-clause-roots : goal.returns-clause-roots
returns-clause-roots g c x step =
    c.loop-n.invariant.1.all x step.0 (omega (arith, step.1, shared-count c.args.self.now c.requires.shared, c.loop-n-test.false))
