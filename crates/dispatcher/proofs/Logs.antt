-- The log of a worker while its seat learns facts.
use Rattle.std.proofs.Common.{◌≡◌, ◌≢◌, ℕ, zero, suc, ◌<◌, ◌⊎◌, inl, inr, List, [], ◌∷◌, length, set, slice_get, Option, Some, refl, sym, ap, ◌∙◌, subst, arith}
use Rattle.std.proofs.lemmas.Bool.{cases_eq}
use Rattle.schedule_core.specs.declared.event.Event.{Event}
use Rattle.schedule_core.specs.declared.event.Event.TheVariants.{Start, Finish}
use Rattle.block_store.specs.declared.outcome.StepOutcome.{StepOutcome}
use Rattle.block_store.specs.declared.view.Fact.{Fact}
use Rattle.block_store.specs.declared.view.Fact.TheVariants.{Began, Ended}
use Rattle.block_store.specs.Stamps.{HasStamp}
use Rattle.block_store.specs.Tallies.{weigh, stamp_of}
use Rattle.block_store.proofs.Facts.{in-weigh}
use Rattle.block_store.proofs.Sums.{same-eq}
use Rattle.dispatcher.specs.Workers.{IsLogged}
use Rattle.dispatcher.proofs.QuietFacts.{HaveSameEvents, stamp-after, stamp-before}

-- it stays right while no event is learned
pub logged-same : (log : List (Option Event)) (before after : List Fact) → HaveSameEvents before after → IsLogged log before → IsLogged log after
logged-same log before after same logged = record {
  sound = λ n e at. stamp-after before after same n e (logged.sound n e at);
  full = λ n e has. logged.full n e (stamp-before before after same n e has);
}

-- ---- one event more

pub set-here : {A : Type 0} (xs : List A) (n : ℕ) (x : A) → n < length xs → slice_get (set xs n x) n ≡ Some x
set-here [] n x within = absurd (omega arith)
set-here (y ∷ ys) zero x within = refl
set-here (y ∷ ys) (suc n) x within = set-here ys n x (omega arith)

pub set-else : {A : Type 0} (xs : List A) (n m : ℕ) (x : A) → m ≢ n → slice_get (set xs n x) m ≡ slice_get xs m
set-else [] n m x other = refl
set-else (y ∷ ys) zero zero x other = absurd (other refl)
set-else (y ∷ ys) zero (suc m) x other = refl
set-else (y ∷ ys) (suc n) zero x other = refl
set-else (y ∷ ys) (suc n) (suc m) x other = set-else ys n m x (λ e. other (ap suc e))

-- a new stamp is that of no event before
new-stamp : (n m : ℕ) (e : Event) (facts : List Fact) → weigh (stamp_of n) facts ≡ 0 → HasStamp facts m e → m ≢ n
new-stamp n m (Start t) facts none has e = omega (arith, in-weigh (stamp_of n) (Began t m) facts has, same-eq m n e)
new-stamp n m (Finish t) facts none has e = omega (arith, in-weigh (stamp_of n) (Ended t m has.0) facts has.1, same-eq m n e)

-- the facts have one event more, which is put at its stamp
module _ (log : List (Option Event)) (facts after : List Fact) (n : ℕ) (event : Event) (logged : IsLogged log facts)
    (new : weigh (stamp_of n) facts ≡ 0) (within : n < length log) (here : HasStamp after n event)
    (stays : (m : ℕ) (e : Event) → HasStamp facts m e → HasStamp after m e)
    (one : (m : ℕ) (e : Event) → HasStamp after m e → ((m ≡ n) × (e ≡ event)) ⊎ HasStamp facts m e) where
  put : List (Option Event)
  put = set log n (Some event)

  sound : (m : ℕ) (e : Event) → slice_get put m ≡ Some (Some e) → (m ≡ n) ⊎ (m ≢ n) → HasStamp after m e
  unfolding put
  sound m e at (inl is) =
      let found : Some (Some event) ≡ Some (Some e) = sym (set-here log n (Some event) within) ∙ (ap (λ k. slice_get put k) (sym is) ∙ at) in
      let same : event ≡ e = cc in
      subst (λ (d : Event). HasStamp after m d) same (subst (λ k. HasStamp after k event) (sym is) here)
  sound m e at (inr other) = stays m e (logged.sound m e (sym (set-else log n m (Some event) other) ∙ at))

  full : (m : ℕ) (e : Event) → ((m ≡ n) × (e ≡ event)) ⊎ HasStamp facts m e → slice_get put m ≡ Some (Some e)
  unfolding put
  full m e (inl is) = ap (λ k. slice_get put k) is.0 ∙ (set-here log n (Some event) within ∙ ap (λ (d : Event). Some (Some d)) (sym is.1))
  full m e (inr has) = set-else log n m (Some event) (new-stamp n m e facts new has) ∙ logged.full m e has

  pub logged-more : IsLogged (set log n (Some event)) after
  unfolding put
  logged-more = record { sound = λ m e at. sound m e at (cases_eq m n); full = λ m e has. full m e (one m e has) }

one-start : (t n : ℕ) (facts : List Fact) (m : ℕ) (e : Event) → HasStamp (Began t n ∷ facts) m e → ((m ≡ n) × (e ≡ Start t)) ⊎ HasStamp facts m e
one-start t n facts m (Start u) (inl is) = let step : t ≡ u = cc in let stamp : n ≡ m = cc in inl (sym stamp, ap Start (sym step))
one-start t n facts m (Start u) (inr has) = inr has
one-start t n facts m (Finish u) (o, inl is) = absurd cc
one-start t n facts m (Finish u) (o, inr has) = inr (o, has)

one-finish : (t n : ℕ) (o : StepOutcome) (facts : List Fact) (m : ℕ) (e : Event) → HasStamp (Ended t n o ∷ facts) m e → ((m ≡ n) × (e ≡ Finish t)) ⊎ HasStamp facts m e
one-finish t n o facts m (Finish u) (p, inl is) = let step : t ≡ u = cc in let stamp : n ≡ m = cc in inl (sym stamp, ap Finish (sym step))
one-finish t n o facts m (Finish u) (p, inr has) = inr (p, has)
one-finish t n o facts m (Start u) (inl is) = absurd cc
one-finish t n o facts m (Start u) (inr has) = inr has

stays-behind : (f : Fact) (facts : List Fact) (m : ℕ) (e : Event) → HasStamp facts m e → HasStamp (f ∷ facts) m e
stays-behind f facts m (Start u) has = inr has
stays-behind f facts m (Finish u) has = (has.0, inr has.1)

pub logged-began : (log : List (Option Event)) (facts : List Fact) (t n : ℕ) → IsLogged log facts → weigh (stamp_of n) facts ≡ 0 → n < length log
    → IsLogged (set log n (Some (Start t))) (Began t n ∷ facts)
logged-began log facts t n logged new within =
    logged-more log facts (Began t n ∷ facts) n (Start t) logged new within (inl refl) (stays-behind (Began t n) facts) (one-start t n facts)

pub logged-ended : (log : List (Option Event)) (facts : List Fact) (t n : ℕ) (o : StepOutcome) → IsLogged log facts → weigh (stamp_of n) facts ≡ 0 → n < length log
    → IsLogged (set log n (Some (Finish t))) (Ended t n o ∷ facts)
logged-ended log facts t n o logged new within =
    logged-more log facts (Ended t n o ∷ facts) n (Finish t) logged new within (o, inl refl) (stays-behind (Ended t n o) facts) (one-finish t n o facts)
