-- Where a view stands for all workers and the clock is twice the number of steps, each step has one start and one finish stamp.
use Rattle.std.proofs.Common.{◌≡◌, ℕ, suc, ◌+◌, ◌*◌, ◌<◌, ◌≤◌, inl, inr, List, [], ◌∷◌, refl, sym, ap, ◌∙◌, subst, arith}
use Rattle.std.proofs.lemmas.Bool.{cases_eq}
use Rattle.residue_sums.specs.Sums.{sum_below}
use Rattle.schedule_core.specs.declared.event.Event.{Event}
use Rattle.schedule_core.specs.declared.event.Event.TheVariants.{Start, Finish}
use Rattle.block_store.specs.declared.key.BoardKey.{BoardKey}
use Rattle.block_store.specs.declared.outcome.StepOutcome.{StepOutcome}
use Rattle.block_store.specs.declared.view.Fact.{Fact}
use Rattle.block_store.specs.declared.view.Fact.TheVariants.{Claimed, Refused, Began, Ended, Marked, Noticed, Took, Away, Gave, Put}
use Rattle.block_store.specs.declared.view.View.{View}
use Rattle.block_store.specs.Keys.{step_count, IsStep}
use Rattle.block_store.specs.Stamps.{HasStamp}
use Rattle.block_store.specs.Tallies.{In, weigh, claim_of, begin_of, end_of, stamp_of, start_of, finish_of, begins, ends, start, finish}
use Rattle.block_store.specs.Plays.{IsWhole}
use Rattle.block_store.proofs.Sums.{same-eq, same-of, when_same-eq, below-lt, sum_below-full}
use Rattle.block_store.proofs.Facts.{some_fact, in-weigh, only-weigh, one-fact, begin-is, end-is}
use Rattle.block_store.proofs.Learning.{start-zero, finish-zero}

stamp-is : (m : ℕ) (facts : List Fact) (f : Fact) → 0 < stamp_of m f → In f facts → (e : Event) × HasStamp facts m e
stamp-is m facts (Began t k) heavy i = (Start t, subst (λ x. In (Began t x) facts) (same-of k m heavy) i)
stamp-is m facts (Ended t k o) heavy i = (Finish t, (o, subst (λ x. In (Ended t x o) facts) (same-of k m heavy) i))
stamp-is m facts (Claimed t) heavy i = absurd (omega arith)
stamp-is m facts (Refused t k) heavy i = absurd (omega arith)
stamp-is m facts (Marked from to) heavy i = absurd (omega arith)
stamp-is m facts (Noticed from to left) heavy i = absurd (omega arith)
stamp-is m facts (Took x) heavy i = absurd (omega arith)
stamp-is m facts (Away x) heavy i = absurd (omega arith)
stamp-is m facts (Gave x) heavy i = absurd (omega arith)
stamp-is m facts (Put u x) heavy i = absurd (omega arith)

module _ (key : BoardKey) (n : ℕ) (v : View) (whole : IsWhole key n v) where
  begun-once : (t : ℕ) → weigh (begin_of t) v.facts ≤ 1
  begun-once t = omega (arith, whole.own.begun t, whole.claims_are.once t)

  ended-once : (t : ℕ) → weigh (end_of t) v.facts ≤ 1
  ended-once t = omega (arith, whole.own.ended t, begun-once t)

  -- ---- a stamp in the view is the stamp of its step

  pub start-is : (t m : ℕ) → In (Began t m) v.facts → start (v ∷ []) t ≡ m
  start-is t m i = omega (arith, only-weigh (begin_of t) (start_of t) (start-zero t) (Began t m) v.facts i (omega (arith, same-eq t t refl)) (begun-once t), when_same-eq t t m refl)

  pub finish-is : (t m : ℕ) (o : StepOutcome) → In (Ended t m o) v.facts → finish (v ∷ []) t ≡ m
  finish-is t m o i = omega (arith, only-weigh (end_of t) (finish_of t) (finish-zero t) (Ended t m o) v.facts i (omega (arith, same-eq t t refl)) (ended-once t), when_same-eq t t m refl)

  pub has-begun : (t m : ℕ) → In (Began t m) v.facts → 0 < begins (v ∷ []) t
  has-begun t m i = omega (arith, in-weigh (begin_of t) (Began t m) v.facts i, same-eq t t refl)

  pub has-ended : (t m : ℕ) (o : StepOutcome) → In (Ended t m o) v.facts → 0 < ends (v ∷ []) t
  has-ended t m o i = omega (arith, in-weigh (end_of t) (Ended t m o) v.facts i, same-eq t t refl)

  pub begun-step : (t : ℕ) → 0 < begins (v ∷ []) t → IsStep key t
  begun-step t h = whole.claims_are.real t (omega (arith, whole.own.begun t))

  pub ended-begun : (t : ℕ) → 0 < ends (v ∷ []) t → 0 < begins (v ∷ []) t
  ended-begun t h = omega (arith, whole.own.ended t)

  -- ---- one stamp belongs to one event

  stamped-once : (m : ℕ) → m < n → weigh (stamp_of m) v.facts ≤ 1
  stamped-once m lt = omega (arith, whole.stamps_are.drawn_once m, below-lt n m lt)

  pub stamp-low : (m : ℕ) (e : Event) → HasStamp v.facts m e → m < n
  stamp-low m (Start t) h = omega (arith, start-is t m h, whole.stamps_are.start_low t (has-begun t m h))
  stamp-low m (Finish t) h = omega (arith, finish-is t m h.0 h.1, whole.stamps_are.finish_low t (has-ended t m h.0 h.1))

  pub one-event : (m : ℕ) (d e : Event) → HasStamp v.facts m d → HasStamp v.facts m e → d ≡ e
  one-event m (Start s) (Start t) h k =
      let one : Began s m ≡ Began t m = one-fact (stamp_of m) (Began s m) (Began t m) v.facts h k (omega (arith, same-eq m m refl)) (omega (arith, same-eq m m refl)) (stamped-once m (stamp-low m (Start s) h)) in cc
  one-event m (Start s) (Finish t) h k =
      let one : Began s m ≡ Ended t m k.0 = one-fact (stamp_of m) (Began s m) (Ended t m k.0) v.facts h k.1 (omega (arith, same-eq m m refl)) (omega (arith, same-eq m m refl)) (stamped-once m (stamp-low m (Start s) h)) in absurd (cc)
  one-event m (Finish s) (Start t) h k =
      let one : Ended s m h.0 ≡ Began t m = one-fact (stamp_of m) (Ended s m h.0) (Began t m) v.facts h.1 k (omega (arith, same-eq m m refl)) (omega (arith, same-eq m m refl)) (stamped-once m (stamp-low m (Finish s) h)) in absurd (cc)
  one-event m (Finish s) (Finish t) h k =
      let one : Ended s m h.0 ≡ Ended t m k.0 = one-fact (stamp_of m) (Ended s m h.0) (Ended t m k.0) v.facts h.1 k.1 (omega (arith, same-eq m m refl)) (omega (arith, same-eq m m refl)) (stamped-once m (stamp-low m (Finish s) h)) in cc

  -- each number below the clock is the stamp of an event
  pub each-stamp : (m : ℕ) → m < n → (e : Event) × HasStamp v.facts m e
  each-stamp m low =
      let f = some_fact (stamp_of m) v.facts (omega (arith, whole.stamps_are.drawn_once m, below-lt n m low)) in
      stamp-is m v.facts f.0 f.2 f.1

  -- and one event has one stamp
  pub one-stamp : (m k : ℕ) (e : Event) → HasStamp v.facts m e → HasStamp v.facts k e → m ≡ k
  one-stamp m k (Start t) h i = sym (start-is t m h) ∙ start-is t k i
  one-stamp m k (Finish t) h i = sym (finish-is t m h.0 h.1) ∙ finish-is t k i.0 i.1

  -- ---- after twice as many stamps as steps each step has ended

  module _ (full : n ≡ 2 * step_count key) where
    none-of_0 : weigh (claim_of 0) v.facts ≡ 0
    none-of_0 = elim (cases_eq (weigh (claim_of 0) v.facts) 0) [ inl z ↦ z | inr nz ↦ absurd (let r = whole.claims_are.real 0 (omega arith) in omega arith) ]

    pub all-done : (t : ℕ) → IsStep key t → (0 < begins (v ∷ []) t) × (0 < ends (v ∷ []) t)
    all-done t step =
        let f : ℕ → ℕ = λ u. begins (v ∷ []) u + ends (v ∷ []) u in
        let one : suc (step_count key) ≡ step_count key + 1 = omega arith in
        let sum : sum_below f (suc (step_count key)) ≡ step_count key * 2 = ap (sum_below f) one ∙ (sym whole.drawn_are ∙ omega (arith, full)) in
        let here : f t ≡ 2 = sum_below-full f 2 (step_count key) (omega (arith, none-of_0, whole.own.begun 0, whole.own.ended 0)) (λ u. omega (arith, begun-once u, ended-once u)) sum t step.0 step.1 in
        (omega (arith, begun-once t, ended-once t), omega (arith, begun-once t, ended-once t))

    pub some-stamp : (e : Event) → ((t : ℕ) → (e ≡ Start t) → IsStep key t) → ((t : ℕ) → (e ≡ Finish t) → IsStep key t) → (m : ℕ) × HasStamp v.facts m e
    some-stamp (Start t) starts finishes =
        let f = some_fact (begin_of t) v.facts (let d = (all-done t (starts t refl)).0 in omega arith) in
        let is = begin-is t f.0 f.2 in
        (is.0, subst (λ x. In x v.facts) is.1 f.1)
    some-stamp (Finish t) starts finishes =
        let f = some_fact (end_of t) v.facts (let d = (all-done t (finishes t refl)).1 in omega arith) in
        let is = end-is t f.0 f.2 in
        (is.0, (is.1, subst (λ x. In x v.facts) is.2 f.1))
