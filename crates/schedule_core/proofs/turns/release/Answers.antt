use Rattle.std.proofs.Common.{ℕ, ◌+◌, List, sym, ◌∙◌, ap, arith}
use Rattle.std.proofs.lemmas.List.{length-set}
use Rattle.dependence_queue.specs.Edges.{successors}
use Rattle.schedule_core.specs.Turns.{times_in}
use Rattle.schedule_core.proofs.ReleasedSteps.{drop_past, next-counted, next-from, next-waits, next-within, next-below}
use Rattle.schedule_core.proofs.turns.release.Goals as goal

pub returns-in_default : goal.returns-in_default
returns-in_default c =
    let steps : List ℕ = successors c.args.edges.now c.args.t in
    let e = drop_past steps c.loop-p.p (sym c.succ.ensures ∙ c.in_default.is) in
    λ s. omega (arith, c.loop-p.invariant.2 s, ap (λ (xs : List ℕ). times_in xs (s + 1)) e)

pub overflow_sub-waits : goal.overflow_sub-waits
overflow_sub-waits c = next-from _ _ _ _ _ (sym c.succ.ensures ∙ c.in-Some.is) c.requires.steps c.requires.enough c.loop-p.invariant.0 c.loop-p.invariant.2

pub bounds-waits-next : goal.bounds-waits-next
bounds-waits-next c = next-within _ _ _ _ _ (sym c.succ.ensures ∙ c.in-Some.is) c.requires.steps c.requires.enough c.loop-p.invariant.0 c.loop-p.invariant.2

pub overflow_sub-waits-in-loop-p : goal.overflow_sub-waits-in-loop-p
overflow_sub-waits-in-loop-p c = next-waits _ _ _ _ _ (sym c.succ.ensures ∙ c.in-Some.is) c.requires.steps c.requires.enough c.loop-p.invariant.0 c.loop-p.invariant.2

pub bounds-waits-next-in-loop-p : goal.bounds-waits-next-in-loop-p
bounds-waits-next-in-loop-p c = next-within _ _ _ _ _ (sym c.succ.ensures ∙ c.in-Some.is) c.requires.steps c.requires.enough c.loop-p.invariant.0 c.loop-p.invariant.2

pub loop-p-preserved : goal.loop-p-preserved
loop-p-preserved c = (
  length-set _ _ _ ∙ c.loop-p.invariant.0,
  next-below _ _ _ _ _ (sym c.succ.ensures ∙ c.in-Some.is) c.requires.steps c.requires.enough c.loop-p.invariant.0 c.loop-p.invariant.2,
  next-counted _ _ _ _ _ (sym c.succ.ensures ∙ c.in-Some.is) c.requires.steps c.requires.enough c.loop-p.invariant.0 c.loop-p.invariant.2,
)
