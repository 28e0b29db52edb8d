-- What follows from the rule, and what stays over a step of one seat.
use Rattle.std.proofs.Common.{◌≡◌, ◌≢◌, ℕ, suc, ◌+◌, ◌*◌, ◌<◌, ◌≤◌, ◌⊎◌, inl, inr, List, get_or, set, Some, refl, sym, ap, ◌∙◌, subst, arith}
use Rattle.std.proofs.lemmas.Bool.{cases_eq}
use mathlib.Core.Option.{some}
use lib.ListN.{get_elem?}
use Rattle.atomic_table.proofs.Lists.{at_set}
use Rattle.residue_sums.specs.Sums.{sum_below}
use Rattle.residue_sums.proofs.Sums.{sum_below-same, sum_below-le}
use Rattle.block_store.specs.Sums.{below}
use Rattle.block_store.specs.Keys.{step_count, edge, preds}
use Rattle.block_store.specs.Tallies.{weigh, amount, stand_for, count_in, claim_of, begin_of, end_of, good_of, bad_of, mark_of, notice_of, claims, begins, ends, goods, bads, marks, notices, lasts, stamps, start, finish, noticed_into, marked_into, drawn}
use Rattle.block_store.specs.Rule.{AreWords, AreClaims, AreStamps, IsView, IsKept}
use Rattle.block_store.specs.declared.key.BoardKey.{BoardKey}
use Rattle.block_store.specs.declared.outcome.StepOutcome.TheVariants.{Ran, Skipped, Failed}
use Rattle.block_store.specs.declared.view.Fact.{Fact}
use Rattle.block_store.specs.declared.view.Fact.TheVariants.{Claimed, Refused, Began, Ended, Marked, Noticed, Took, Away, Gave, Put}
use Rattle.block_store.specs.declared.view.View.{View}
use Rattle.block_store.proofs.Sums.{sum_below-mono, sum_below-le_but_first}
use Rattle.block_store.proofs.Tallies.{EachLe, amount-le, amount-others, amount-sum, weigh-sum, stand_for-set}

-- an end is good or bad
pub end-split : (t : ℕ) (f : Fact) → end_of t f ≡ good_of t f + bad_of t f
end-split t (Ended u n Ran) = omega arith
end-split t (Ended u n Skipped) = omega arith
end-split t (Ended u n (Failed row col)) = omega arith
end-split t (Claimed u) = refl
end-split t (Refused u n) = refl
end-split t (Began u n) = refl
end-split t (Marked a b) = refl
end-split t (Noticed a b left) = refl
end-split t (Took x) = refl
end-split t (Away x) = refl
end-split t (Gave x) = refl
end-split t (Put u x) = refl

module _ (key : BoardKey) (words : List ℕ) (views : List View) (kept : IsKept key words views) where
  pub begins-le : (t : ℕ) → begins views t ≤ claims views t
  begins-le t = amount-le (begin_of t) (claim_of t) views (λ j v at. (kept.each_view j v at).begun t)

  pub ends-le : (t : ℕ) → ends views t ≤ begins views t
  ends-le t = amount-le (end_of t) (begin_of t) views (λ j v at. (kept.each_view j v at).ended t)

  pub marks-le : (s t : ℕ) → marks views s t ≤ bads views s
  marks-le s t = amount-le (mark_of s t) (bad_of s) views (λ j v at. (kept.each_view j v at).marked s t)

  pub ends-split : (t : ℕ) → ends views t ≡ goods views t + bads views t
  ends-split t = amount-sum (end_of t) (good_of t) (bad_of t) (end-split t) views

  pub notices-le : (s t : ℕ) → notices views s t ≤ goods views s + marks views s t
  notices-le s t =
      let both : Fact → ℕ = λ f. good_of s f + mark_of s t f in
      let le : amount (notice_of s t) views ≤ amount both views = amount-le (notice_of s t) both views (λ j v at. let l = (kept.each_view j v at).noticed s t in omega (arith, weigh-sum both (good_of s) (mark_of s t) (λ f. refl) v.facts)) in
      omega (arith, amount-sum both (good_of s) (mark_of s t) (λ f. refl) views)

  pub into-le : (t : ℕ) → noticed_into views key t ≤ preds key t
  into-le t = sum_below-mono (λ s. notices views s t) (λ s. edge key s t) (step_count key + 1) (λ s q. kept.claims_are.noticed s t)

  pub drawn-small : drawn views key ≤ (step_count key + 1) * 2
  drawn-small = sum_below-le (λ t. begins views t + ends views t) (step_count key + 1) 2 (λ t q. let c = kept.claims_are.once t in omega (arith, begins-le t, ends-le t))

  -- the clock has two stamps for each step at most
  pub drawn-bound : drawn views key ≤ 2 * step_count key
  drawn-bound =
      let none : claims views 0 ≡ 0 = no_claim (cases_eq (claims views 0) 0) in
      let f : ℕ → ℕ = λ t. begins views t + ends views t in
      let le : sum_below f (suc (step_count key)) ≤ step_count key * 2 = sum_below-le_but_first f 2 (step_count key) (omega (arith, begins-le 0, ends-le 0)) (λ t. omega (arith, kept.claims_are.once t, begins-le t, ends-le t)) in
      let one : step_count key + 1 ≡ suc (step_count key) = omega arith in
      let same_end : sum_below f (step_count key + 1) ≡ sum_below f (suc (step_count key)) = ap (sum_below f) one in
      omega arith
    where
      no_claim : (claims views 0 ≡ 0) ⊎ (claims views 0 ≢ 0) → claims views 0 ≡ 0
      no_claim (inl z) = z
      no_claim (inr nz) = let r = kept.claims_are.real 0 (omega arith) in absurd (omega arith)

  module _ (id : ℕ) (v : View) (at : get_elem? views id ≡ some v) where
    notice-ends : (s t : ℕ) → EachLe (notice_of s t) (end_of s) views
    notice-ends s t j u there = let x = kept.each_view j u there in omega (arith, x.noticed s t, x.marked s t, weigh-sum (end_of s) (good_of s) (bad_of s) (end-split s) u.facts)

    -- what this seat claimed and has not begun, nobody has begun
    pub not_begun : (t : ℕ) → 0 < weigh (claim_of t) v.facts → weigh (begin_of t) v.facts ≡ 0 → begins views t ≡ 0
    not_begun t c z = omega (arith, kept.claims_are.once t, amount-others (begin_of t) (claim_of t) views id v (λ j u there. (kept.each_view j u there).begun t) at)

    pub not_ended : (t : ℕ) → 0 < weigh (begin_of t) v.facts → weigh (end_of t) v.facts ≡ 0 → ends views t ≡ 0
    not_ended t c z = omega (arith, kept.claims_are.once t, begins-le t, amount-others (end_of t) (begin_of t) views id v (λ j u there. (kept.each_view j u there).ended t) at)

    pub not_noticed : (s t : ℕ) → 0 < weigh (end_of s) v.facts → weigh (notice_of s t) v.facts ≡ 0 → notices views s t ≡ 0
    not_noticed s t c z = omega (arith, kept.claims_are.once s, begins-le s, ends-le s, amount-others (notice_of s t) (end_of s) views id v (notice-ends s t) at)

    pub not_marked : (s t : ℕ) → 0 < weigh (bad_of s) v.facts → weigh (mark_of s t) v.facts ≡ 0 → marks views s t ≡ 0
    not_marked s t c z = omega (arith, kept.claims_are.once s, begins-le s, ends-le s, ends-split s, amount-others (mark_of s t) (bad_of s) views id v (λ j u there. (kept.each_view j u there).marked s t) at)

    -- the views after a step of this seat
    pub each_after : (clock : ℕ) → get_or words 0 0 ≤ clock → (w : View) → IsView key clock w → (j : ℕ) (u : View) → get_elem? (set views id w) j ≡ some u → IsView key clock u
    each_after clock le w is j u there = go (at_set views id j w u there)
      where
        go : ((j ≡ id) × (w ≡ u)) ⊎ ((j ≢ id) × (get_elem? views j ≡ some u)) → IsView key clock u
        go (inl h) = subst (IsView key clock) h.1 is
        go (inr h) = let x = kept.each_view j u h.1 in record { begun = x.begun; ended = x.ended; marked = x.marked; noticed = x.noticed; outcomes = x.outcomes; loaded = omega (arith, x.loaded); spent = x.spent; knows = x.knows }

    -- the marks that were found still stand, where no mark is lost
    pub found_marks-after : (w : View) → ((t : ℕ) → marked_into views key t ≤ marked_into (set views id w) key t)
        → ((t : ℕ) → w.found_mark ≡ Some t → 0 < marked_into (set views id w) key t)
        → (j : ℕ) (u : View) → get_elem? (set views id w) j ≡ some u → (t : ℕ) → u.found_mark ≡ Some t → 0 < marked_into (set views id w) key t
    found_marks-after w grow mine j u there t found = go (at_set views id j w u there)
      where
        go : ((j ≡ id) × (w ≡ u)) ⊎ ((j ≢ id) × (get_elem? views j ≡ some u)) → 0 < marked_into (set views id w) key t
        go (inl h) = mine t (ap (λ (x : View). x.found_mark) h.1 ∙ found)
        go (inr h) = omega (arith, grow t, kept.found_marks j u h.1 t found)

    pub workers_after : (w : View) → w.workers ≡ v.workers → (k : ℕ) → stand_for k (set views id w) ≡ below key.workers k
    workers_after w is k = let e : count_in k w.workers ≡ count_in k v.workers = ap (count_in k) is in omega (arith, stand_for-set k views id v w at, kept.workers_are k)

-- stamps stay where no stamp is drawn
pub stamps-same : (key : BoardKey) (clock clock' : ℕ) (views views' : List View) → clock' ≡ clock → ((n : ℕ) → stamps views' n ≡ stamps views n) → ((t : ℕ) → begins views' t ≡ begins views t) → ((t : ℕ) → ends views' t ≡ ends views t)
    → ((t : ℕ) → start views' t ≡ start views t) → ((t : ℕ) → finish views' t ≡ finish views t) → AreStamps key clock views → AreStamps key clock' views'
stamps-same key clock clock' views views' same_clock n b e s f k = record {
  drawn_once = λ x. n x ∙ (k.drawn_once x ∙ ap (λ c. below c x) (sym same_clock));
  start_low = λ t z. omega (arith, k.start_low t (omega (arith, b t)), s t);
  finish_low = λ t z. omega (arith, k.finish_low t (omega (arith, e t)), f t);
  start_first = λ t z. omega (arith, k.start_first t (omega (arith, e t)), s t, f t);
  edge_ended = λ x t g z. omega (arith, k.edge_ended x t g (omega (arith, b t)), e x);
  edge_forward = λ x t g z. omega (arith, k.edge_forward x t g (omega (arith, b t)), f x, s t);
}

-- claims and pairs stay where no step is claimed and no pair marked or noticed
pub claims-same : (key : BoardKey) (views views' : List View) → ((t : ℕ) → claims views' t ≡ claims views t) → ((s t : ℕ) → notices views' s t ≡ notices views s t) → ((s t : ℕ) → marks views' s t ≡ marks views s t)
    → ((t : ℕ) → lasts views' t ≡ lasts views t) → AreClaims key views → AreClaims key views'
claims-same key views views' c n m l k =
    let into : (t : ℕ) → noticed_into views' key t ≡ noticed_into views key t = λ t. sum_below-same _ _ (step_count key + 1) (λ s q. n s t) in record {
      once = λ t. omega (arith, k.once t, c t);
      real = λ t z. k.real t (omega (arith, c t));
      ready = λ t z. omega (arith, k.ready t (omega (arith, c t)), into t);
      noticed = λ s t. omega (arith, k.noticed s t, n s t);
      marked = λ s t. omega (arith, k.marked s t, m s t);
      last = λ t z. omega (arith, k.last t (omega (arith, l t)), into t);
    }

-- the words stay where the tallies do, but for the word and the counts that `word` speaks of
pub words-same : (key : BoardKey) (words : List ℕ) (views views' : List View) → ((t : ℕ) → claims views' t ≡ claims views t) → ((s t : ℕ) → notices views' s t ≡ notices views s t) → ((s t : ℕ) → marks views' s t ≡ marks views s t)
    → ((t : ℕ) → begins views' t + ends views' t ≡ begins views t + ends views t) → AreWords key words views → AreWords key words views'
words-same key words views views' c n m b k = record {
  long = k.long;
  word = λ t step.
      let i : noticed_into views' key t ≡ noticed_into views key t = sum_below-same _ _ (step_count key + 1) (λ s q. n s t) in
      let j : marked_into views' key t ≡ marked_into views key t = sum_below-same _ _ (step_count key + 1) (λ s q. m s t) in
      omega (arith, k.word t step, c t);
  clock = k.clock ∙ sym (sum_below-same _ _ (step_count key + 1) (λ t q. b t));
}
