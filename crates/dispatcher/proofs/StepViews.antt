-- What a view has of a step that is claimed, begins and ends.
use Rattle.std.proofs.Common.{ℕ, refl, arith}
use Rattle.block_store.specs.declared.outcome.StepOutcome.{StepOutcome}
use Rattle.block_store.specs.declared.view.Fact.TheVariants.{Claimed, Began, Ended}
use Rattle.block_store.specs.declared.view.View.{View}
use Rattle.block_store.specs.Plays.{HasClaimed, IsFresh, IsRunning, NotBegun, NotEnded, NotPut}
use Rattle.block_store.specs.Views.{learned}
use Rattle.block_store.proofs.Sums.{same-eq}
use Rattle.dispatcher.specs.Telling.{HasToldNone}

-- ---- it is claimed, where the view had nothing of it

module _ (t : ℕ) (v : View) where
  pub claimed-now : HasClaimed (learned (Claimed t) v) t
  claimed-now = omega (arith, same-eq t t refl)

  pub begun-claimed : IsFresh t v → NotBegun (learned (Claimed t) v) t
  begun-claimed fresh = omega (arith, fresh.begin)

  pub ended-claimed : IsFresh t v → NotEnded (learned (Claimed t) v) t
  ended-claimed fresh = omega (arith, fresh.end)

  pub put-claimed : IsFresh t v → NotPut (learned (Claimed t) v) t
  put-claimed fresh = omega (arith, fresh.put)

  pub untold-claimed : IsFresh t v → HasToldNone t (learned (Claimed t) v)
  untold-claimed fresh = record { notices = λ u. omega (arith, fresh.notices u); marks = λ u. omega (arith, fresh.marks u) }

-- ---- it begins

pub claimed-begun : (t u n : ℕ) (v : View) → HasClaimed v t → HasClaimed (learned (Began u n) v) t
claimed-begun t u n v claimed = omega (arith, claimed)

pub running-begun : (t n : ℕ) (v : View) → NotEnded v t → NotPut v t → IsRunning (learned (Began t n) v) t
running-begun t n v unended unput = record { begun = omega (arith, same-eq t t refl); unended = omega (arith, unended); unput = omega (arith, unput) }

pub untold-begun : (t u n : ℕ) (v : View) → HasToldNone t v → HasToldNone t (learned (Began u n) v)
untold-begun t u n v none = record { notices = λ s. omega (arith, none.notices s); marks = λ s. omega (arith, none.marks s) }

-- ---- it ends

pub untold-ended : (t u n : ℕ) (o : StepOutcome) (v : View) → HasToldNone t v → HasToldNone t (learned (Ended u n o) v)
untold-ended t u n o v none = record { notices = λ s. omega (arith, none.notices s); marks = λ s. omega (arith, none.marks s) }
