use Rattle.std.proofs.Common.{rules, ℕ, ◌+◌, List, refl, subst, sym, ◌∙◌, arith}
use Rattle.dependence_queue.specs.Edges.{successors}
use Rattle.block_store.specs.declared.view.View.{View}
use Rattle.block_store.specs.Seats.{key_of, view}
use Rattle.dispatcher.specs.Telling.{HasEndedAs, HasTold}
use Rattle.dispatcher.proofs.Pushes.{pushes-same, pushes-then}
use Rattle.dispatcher.proofs.SharedKeys.{shared-apart, shared-listed, shared-place, shared-successor}
use Rattle.dispatcher.proofs.ToldSteps.{AreTold, AreUntold, ended-told, told-all, told-next, told-nothing, told-pair, untold-all, untold-next}
use Rattle.dispatcher.proofs.shared_run.SharedRun.tell_all.Goals as goal

pub loop-next-init : goal.loop-next-init
loop-next-init g c = record {
  seat = c.requires.seat;
  same = search rules;
  told = told-nothing c.args.t (view c.args.seat.now);
  pass = c.requires.pass;
  pushes = pushes-same c.args.pass.now c.args.pass.now refl;
  popped = refl;
  tied = c.requires.tied;
  ended = c.requires.ended;
  done = λ j a below at. absurd (omega (arith, below));
  fresh = untold-all c.args.t (view c.args.seat.now) (successors c.args.self.now.edges.now c.args.t) c.requires.fresh;
}

pub tell-requires-clause-edge : goal.tell-requires-clause-edge
tell-requires-clause-edge g c = shared-successor c.args.self.now c.requires.shared c.args.t c.loop-next.place _ (sym c.succ.ensures ∙ c.in-Some.is)

pub tell-requires-clause-unnoticed : goal.tell-requires-clause-unnoticed
tell-requires-clause-unnoticed g c = (c.loop-next.invariant.fresh c.loop-next.place _ (omega arith) (sym c.succ.ensures ∙ c.in-Some.is)).0

pub tell-requires-clause-unmarked : goal.tell-requires-clause-unmarked
tell-requires-clause-unmarked g c = (c.loop-next.invariant.fresh c.loop-next.place _ (omega arith) (sym c.succ.ensures ∙ c.in-Some.is)).1

pub loop-next-preserved : goal.loop-next-preserved
loop-next-preserved g c =
    let a = c.args in
    let inv = c.loop-next.invariant in
    let t = c.tell.ensures in
    let row : List ℕ = successors a.self.now.edges.now a.t in
    let left : ℕ = t.told.0 in
    let v : View = view c.loop-next.seat in
    record {
      seat = search rules;
      same = search rules;
      told = subst (λ (w : View). HasTold a.t (view a.seat.now) w) (sym t.told.1) (told-pair a.bad a.t _ left (view a.seat.now) v inv.told);
      pass = t.pass;
      pushes = pushes-then a.pass.now c.loop-next.pass c.tell.new.pass inv.pushes t.pushes;
      popped = t.popped ∙ inv.popped;
      tied = t.tied;
      ended = subst (λ (w : View). HasEndedAs a.bad a.t w) (sym t.told.1) (ended-told a.bad a.bad a.t _ left v inv.ended);
      done = subst (λ (w : View). AreTold a.t w row (c.loop-next.place + 1)) (sym t.told.1)
          (told-next a.bad a.t _ left c.loop-next.place v row (sym c.succ.ensures ∙ c.in-Some.is) inv.done);
      fresh = subst (λ (w : View). AreUntold a.t w row (c.loop-next.place + 1)) (sym t.told.1)
          (untold-next a.bad a.t _ left c.loop-next.place v row (shared-apart a.self.now c.requires.shared a.t) (sym c.succ.ensures ∙ c.in-Some.is) inv.fresh);
    }

pub returns-clause-all : goal.returns-clause-all
returns-clause-all g c =
    let a = c.args in
    told-all (key_of a.self.now.board.now) a.t c.loop-next.place (view c.loop-next.seat) (successors a.self.now.edges.now a.t)
    (shared-listed a.self.now c.requires.shared a.t) (let none = c.in_default.ensures in cc) c.loop-next.invariant.done

pub overflow_add-place : goal.overflow_add-place
overflow_add-place g c = omega (arith, shared-place c.args.self.now c.requires.shared c.args.t c.loop-next.place _ (sym c.succ.ensures ∙ c.in-Some.is))
