-- A seat notices an edge: one less in the word of its second step keeps the rule.
use Rattle.std.proofs.Common.{◌≡◌, ◌≢◌, ℕ, ◌+◌, ◌-◌, ◌*◌, ◌%◌, ◌<◌, ◌≤◌, ◌⊎◌, inl, inr, List, [], ◌∷◌, get_or, set, refl, sym, ap, ◌∙◌, subst, arith}
use Rattle.std.proofs.Math.ListN.{length-set}
use Rattle.std.proofs.lemmas.Bool.{cases_eq}
use Rattle.std.proofs.lemmas.List.{get_or-set_same, get_or-set_other}
use mathlib.Core.Option.{some}
use lib.ListN.{get_elem?}
use Rattle.residue_sums.proofs.Sums.{sum_below-same}
use Rattle.block_store.specs.declared.key.BoardKey.{BoardKey}
use Rattle.block_store.specs.declared.view.Fact.TheVariants.{Noticed}
use Rattle.block_store.specs.declared.view.View.{View}
use Rattle.block_store.specs.Keys.{step_count, IsStep, edge, preds}
use Rattle.block_store.specs.Tallies.{weigh, claim_of, end_of, good_of, bad_of, mark_of, notice_of, last_of, claims, notices, lasts, noticed_into, marked_into, mark}
use Rattle.block_store.specs.Rule.{AreWords, AreClaims, IsView, IsKept}
use Rattle.block_store.specs.Views.{learned}
use Rattle.block_store.proofs.Sums.{same_pair-eq, same_pair-left, same_pair-right, sum_below-one, sum_below-strict}
use Rattle.block_store.proofs.Tallies.{amount-has, weigh-sum}
use Rattle.block_store.proofs.Edges.{edge-steps, preds-le}
use Rattle.block_store.proofs.Kept.{end-split, not_noticed}
use Rattle.block_store.proofs.Learning.{after, more, still, marked-still, stamps-still, drawn-still, outcomes-still, kept-learned}

-- the pair (s, t), whose second step has the word m
module _ (key : BoardKey) (words : List ℕ) (views : List View) (kept : IsKept key words views) (id : ℕ) (v : View)
    (at : get_elem? views id ≡ some v) (alive : v.workers ≢ []) (s t m : ℕ) (fresh : weigh (notice_of s t) v.facts ≡ 0)
    (is_edge : 0 < edge key s t) (may : 0 < weigh (good_of s) v.facts + weigh (mark_of s t) v.facts) (is : get_or words t 0 ≡ m) where
  abbrev left : ℕ
  left = m % 4294967296 - 1

  abbrev views' : List View
  views' = after views id v (Noticed s t left)

  abbrev words' : List ℕ
  words' = set words t (m - 1)

  own : IsView key (get_or words 0 0) v
  own = kept.each_view id v at

  -- ---- before: nobody noticed the pair, so t has an edge that isn't noticed, and nobody claimed it or noticed its last edge

  none : notices views s t ≡ 0
  none = not_noticed key words views kept id v at s t (omega (arith, own.marked s t, weigh-sum (end_of s) (good_of s) (bad_of s) (end-split s) v.facts)) fresh

  step : IsStep key t
  step = (edge-steps key s t is_edge).1

  range : s < step_count key + 1
  range = let e = (edge-steps key s t is_edge).0.1 in omega arith

  short : noticed_into views key t < preds key t
  short = sum_below-strict (λ y. notices views y t) (λ y. edge key y t) s (step_count key + 1) range (λ y q. kept.claims_are.noticed y t) (omega (arith, none))

  pub no_last : weigh (last_of t) v.facts ≡ 0
  no_last = elim (cases_eq (weigh (last_of t) v.facts) 0) [
    | inl e ↦ e
    | inr ne ↦ absurd (omega (arith, short, kept.claims_are.last t (omega (arith, amount-has (last_of t) views id v at))))
  ]

  free : claims views t ≡ 0
  free = elim (cases_eq (claims views t) 0) [
    | inl e ↦ e
    | inr ne ↦ absurd (omega (arith, short, kept.claims_are.ready t (omega arith)))
  ]

  pub count_is : (1 ≤ m) × (m % 4294967296 + noticed_into views key t ≡ preds key t) × (0 < m % 4294967296)
  count_is =
      let w = kept.words_are.word t step in
      let a = free in
      let b = short in
      let c = preds-le key t in
      let d = kept.small in
      let r : m % 4294967296 ≡ preds key t - noticed_into views key t = omega arith in
      (omega arith, omega arith, omega arith)

  -- ---- the tallies after it

  other : (a b : ℕ) → (a ≢ s) ⊎ (b ≢ t) → notices views' a b ≡ notices views a b
  other a b (inl ne) = omega (arith, more views id v (Noticed s t left) at (notice_of a b), same_pair-left s t a b (λ h. ne (sym h)))
  other a b (inr ne) = omega (arith, more views id v (Noticed s t left) at (notice_of a b), same_pair-right s t a b (λ h. ne (sym h)))

  here : notices views' s t ≡ 1
  here = omega (arith, more views id v (Noticed s t left) at (notice_of s t), same_pair-eq s t s t refl refl, none)

  into : noticed_into views' key t ≡ noticed_into views key t + 1
  into = omega (arith, sum_below-one (λ y. notices views y t) (λ y. notices views' y t) s (step_count key + 1) range (λ y ne. other y t (inl ne)), here, none)

  into_other : (u : ℕ) → u ≢ t → noticed_into views' key u ≡ noticed_into views key u
  into_other u ne = sum_below-same _ _ (step_count key + 1) (λ y q. other y u (inr ne))

  marked : (u : ℕ) → marked_into views' key u ≡ marked_into views key u
  marked u = marked-still views id v (Noticed s t left) at key u (λ a. refl)

  claims_same : (u : ℕ) → claims views' u ≡ claims views u
  claims_same u = still views id v (Noticed s t left) at (claim_of u) refl

  clock_same : get_or words' 0 0 ≡ get_or words 0 0
  clock_same = get_or-set_other words t 0 (m - 1) 0 (λ h. omega (arith, step))

  -- ---- the rule after it

  noticed-words : AreWords key words' views'
  noticed-words = record {
    long = omega (arith, length-set words t (m - 1), kept.words_are.long);
    word = λ u su. word u su (cases_eq u t);
    clock = clock_same ∙ (kept.words_are.clock ∙ sum_below-same _ _ (step_count key + 1) (λ u q. omega (arith, drawn-still views id v (Noticed s t left) at key u refl refl)));
  }
    where
      word : (u : ℕ) → IsStep key u → (u ≡ t) ⊎ (u ≢ t)
          → get_or words' u 0 + noticed_into views' key u ≡ preds key u + 4294967296 * claims views' u + 8589934592 * mark views' key u
      word u su (inl e) =
          let now : get_or words' u 0 ≡ m - 1 = ap (λ y. get_or words' y 0) e ∙ get_or-set_same words t (m - 1) 0 (omega (arith, kept.words_are.long, step)) in
          let found : get_or words u 0 ≡ m = ap (λ y. get_or words y 0) e ∙ is in
          let one : noticed_into views' key u ≡ noticed_into views key u + 1 = subst (λ y. noticed_into views' key y ≡ noticed_into views key y + 1) (sym e) into in
          omega (arith, kept.words_are.word u su, marked u, claims_same u, count_is.0)
      word u su (inr ne) = omega (arith, kept.words_are.word u su, into_other u ne, marked u, claims_same u, get_or-set_other words t u (m - 1) 0 ne)

  noticed-claims : AreClaims key views'
  noticed-claims = record {
    once = λ u. omega (arith, kept.claims_are.once u, claims_same u);
    real = λ u z. kept.claims_are.real u (omega (arith, claims_same u));
    ready = λ u. ready u (cases_eq u t);
    noticed = λ a b. edges a b (cases_eq a s) (cases_eq b t);
    marked = λ a b. omega (arith, kept.claims_are.marked a b, still views id v (Noticed s t left) at (mark_of a b) refl);
    last = λ u. last u (cases_eq u t) (cases_eq left 0);
  }
    where
      ready : (u : ℕ) → (u ≡ t) ⊎ (u ≢ t) → 0 < claims views' u → noticed_into views' key u ≡ preds key u
      ready u (inl e) z = absurd (omega (arith, free, ap (λ y. claims views y) e, claims_same u))
      ready u (inr ne) z = into_other u ne ∙ kept.claims_are.ready u (omega (arith, claims_same u))

      edges : (a b : ℕ) → (a ≡ s) ⊎ (a ≢ s) → (b ≡ t) ⊎ (b ≢ t) → notices views' a b ≤ edge key a b
      edges a b (inr ne) y = omega (arith, other a b (inl ne), kept.claims_are.noticed a b)
      edges a b (inl e) (inr ne) = omega (arith, other a b (inr ne), kept.claims_are.noticed a b)
      edges a b (inl e) (inl f) = subst (λ y. notices views' y b ≤ edge key y b) (sym e) (subst (λ y. notices views' s y ≤ edge key s y) (sym f) (omega (arith, here)))

      last : (u : ℕ) → (u ≡ t) ⊎ (u ≢ t) → (left ≡ 0) ⊎ (left ≢ 0) → 0 < lasts views' u → noticed_into views' key u ≡ preds key u
      last u (inl e) (inl z) some_last = subst (λ y. noticed_into views' key y ≡ preds key y) (sym e) (omega (arith, into, count_is.1, short))
      last u (inl e) (inr nz) some_last = absurd (omega (
        arith,
        short,
        ap (λ y. noticed_into views key y) e,
        ap (λ y. preds key y) e,
        kept.claims_are.last u (omega (arith, more views id v (Noticed s t left) at (last_of u), same_pair-right t left u 0 nz)),
      ))
      last u (inr ne) y some_last = into_other u ne
          ∙ kept.claims_are.last u (omega (arith, more views id v (Noticed s t left) at (last_of u), same_pair-left t left u 0 (λ h. ne (sym h))))

  own-noticed : IsView key (get_or words' 0 0) (learned (Noticed s t left) v)
  own-noticed = record {
    begun = λ u. omega (arith, own.begun u);
    ended = λ u. omega (arith, own.ended u);
    marked = λ a b. omega (arith, own.marked a b);
    noticed = λ a b. mine a b (cases_eq a s) (cases_eq b t);
    outcomes = outcomes-still views id v (Noticed s t left) key (λ u n o e. cc) own.outcomes;
    loaded = omega (arith, own.loaded, clock_same);
    spent = λ e. absurd (alive e);
    knows = own.knows;
  }
    where
      mine : (a b : ℕ) → (a ≡ s) ⊎ (a ≢ s) → (b ≡ t) ⊎ (b ≢ t) → weigh (notice_of a b) (Noticed s t left ∷ v.facts)
          ≤ weigh (good_of a) (Noticed s t left ∷ v.facts) + weigh (mark_of a b) (Noticed s t left ∷ v.facts)
      mine a b (inr ne) y = omega (arith, same_pair-left s t a b (λ h. ne (sym h)), own.noticed a b)
      mine a b (inl e) (inr ne) = omega (arith, same_pair-right s t a b (λ h. ne (sym h)), own.noticed a b)
      mine a b (inl e) (inl f) = omega (
        arith,
        same_pair-eq s t a b (sym e) (sym f),
        fresh,
        may,
        ap (λ y. weigh (notice_of y b) v.facts) e,
        ap (λ y. weigh (notice_of s y) v.facts) f,
        ap (λ y. weigh (good_of y) v.facts) e,
        ap (λ y. weigh (mark_of y b) v.facts) e,
        ap (λ y. weigh (mark_of s y) v.facts) f,
      )

  pub noticed : IsKept key words' views'
  noticed = kept-learned key words words' views kept id v at (Noticed s t left) noticed-words noticed-claims
      (stamps-still views id v (Noticed s t left) at key (get_or words 0 0) (get_or words' 0 0) clock_same (λ n. refl) (λ u. refl) (λ u. refl) kept.stamps_are)
      (omega (arith, clock_same)) own-noticed (λ u. omega (arith, marked u))
