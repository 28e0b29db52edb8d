use Rattle.std.proofs.Common.{◌≡◌, ℕ, refl, subst, sym, ap, ◌∙◌, arith}
use Rattle.block_store.specs.declared.key.BoardKey.{BoardKey}
use Rattle.block_store.specs.declared.view.View.{View}
use Rattle.block_store.specs.declared.view.Fact.TheVariants.{Noticed}
use Rattle.block_store.specs.Plays.{MayNotify, NoLast, NotNoticed}
use Rattle.block_store.specs.Seats.{key_of, view}
use Rattle.block_store.specs.Views.{learned}
use Rattle.block_store.proofs.Edges.{edge-steps}
use Rattle.ready_queue.specs.declared.pass_view.PassView.{PassView}
use Rattle.ready_queue.specs.Queues as queues
use Rattle.dispatcher.specs.Telling.{AreTied, told_view}
use Rattle.dispatcher.proofs.Pushes.{pushes-more, pushes-same}
use Rattle.dispatcher.proofs.SharedKeys.{shared-queue}
use Rattle.dispatcher.proofs.ToldSteps.{marked-may, marked-unnoticed, not-pushed, tied-pushed, tied-told}
use Rattle.dispatcher.proofs.shared_run.SharedRun.tell.Goals as goal

pub notify-left-requires-clause-ended : goal.notify-left-requires-clause-ended
notify-left-requires-clause-ended g c =
    let a = c.args in
    subst (λ (v : View). MayNotify v a.t a.next) (sym c.mark.ensures.marked) (marked-may a.bad a.t a.next (view a.seat.now) c.requires.ended)

pub notify-left-requires-clause-fresh : goal.notify-left-requires-clause-fresh
notify-left-requires-clause-fresh g c =
    let a = c.args in
    subst (λ (v : View). NotNoticed v a.t a.next) (sym c.mark.ensures.marked) (marked-unnoticed a.bad a.t a.next (view a.seat.now) c.requires.unnoticed)

pub push-requires-clause-step : goal.push-requires-clause-step
push-requires-clause-step g c =
    let a = c.args in
    let e = edge-steps (key_of a.self.now.board.now) a.t a.next c.requires.edge in
    (e.1.0, omega (arith, e.1.1, shared-queue a.self.now c.requires.shared))

pub push-requires-clause-fresh : goal.push-requires-clause-fresh
push-requires-clause-fresh g c =
    let a = c.args in
    not-pushed (key_of a.self.now.board.now) a.bad a.t a.next (queues.view a.pass.now) (view a.seat.now) c.requires.tied c.requires.edge
    (subst (λ (v : View). NoLast a.next v) c.mark.ensures.marked c.notify-left.ensures.first)

pub returns-then-was_last-clause-told : goal.returns-then-was_last-clause-told
returns-then-was_last-clause-told g c =
    let a = c.args in
    (c.notify-left.result, c.notify-left.ensures.noticed ∙ ap (λ (x : View). learned (Noticed a.t a.next c.notify-left.result) x) c.mark.ensures.marked)

pub returns-else-was_last-clause-told : goal.returns-else-was_last-clause-told
returns-else-was_last-clause-told g c =
    let a = c.args in
    (c.notify-left.result, c.notify-left.ensures.noticed ∙ ap (λ (x : View). learned (Noticed a.t a.next c.notify-left.result) x) c.mark.ensures.marked)

pub returns-then-was_last-clause-tied : goal.returns-then-was_last-clause-tied
returns-then-was_last-clause-tied g c =
    let a = c.args in
    let key : BoardKey = key_of a.self.now.board.now in
    let v : View = view a.seat.now in
    let none = subst (λ (w : View). NoLast a.next w) c.mark.ensures.marked c.notify-left.ensures.first in
    let now : view c.notify-left.new.seat ≡ told_view a.bad a.t a.next 0 v =
    c.notify-left.ensures.noticed ∙ (ap (λ (n : ℕ). learned (Noticed a.t a.next n) (view c.mark.new.seat)) c.if-was_last.true
    ∙ ap (λ (w : View). learned (Noticed a.t a.next 0) w) c.mark.ensures.marked) in
    subst (λ (w : View). AreTied key (queues.view c.push.new.pass) w) (sym now)
    (subst (λ (h : PassView). AreTied key h (told_view a.bad a.t a.next 0 v)) (sym c.push.ensures.pushed)
    (tied-pushed key a.bad a.t a.next (queues.view a.pass.now) v c.requires.tied c.requires.edge none))

pub returns-else-was_last-clause-tied : goal.returns-else-was_last-clause-tied
returns-else-was_last-clause-tied g c =
    let a = c.args in
    let key : BoardKey = key_of a.self.now.board.now in
    let left : ℕ = c.notify-left.result in
    let now : view c.notify-left.new.seat ≡ told_view a.bad a.t a.next left (view a.seat.now) =
    c.notify-left.ensures.noticed ∙ ap (λ (w : View). learned (Noticed a.t a.next left) w) c.mark.ensures.marked in
    subst (λ (w : View). AreTied key (queues.view a.pass.now) w) (sym now)
    (tied-told key a.bad a.t a.next left (queues.view a.pass.now) (view a.seat.now) c.if-was_last.false c.requires.tied)

pub returns-then-was_last-clause-pushes : goal.returns-then-was_last-clause-pushes
returns-then-was_last-clause-pushes g c = pushes-more c.args.next c.args.pass.now c.push.new.pass c.push.ensures.pushed

pub returns-else-was_last-clause-pushes : goal.returns-else-was_last-clause-pushes
returns-else-was_last-clause-pushes g c = pushes-same c.args.pass.now c.args.pass.now refl

pub returns-then-was_last-clause-popped : goal.returns-then-was_last-clause-popped
returns-then-was_last-clause-popped g c = ap (λ (h : PassView). h.popped) c.push.ensures.pushed
