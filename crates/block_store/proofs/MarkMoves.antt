-- A seat marks the second step of an edge to be skipped: the bit in its word keeps the rule.
use Rattle.std.proofs.Common.{◌≡◌, ◌≢◌, ℕ, ◌+◌, ◌-◌, ◌*◌, ◌<◌, ◌≤◌, ◌⊎◌, inl, inr, List, [], ◌∷◌, get_or, set, refl, sym, ap, ◌∙◌, subst, arith}
use Rattle.std.proofs.Math.ListN.{length-set}
use Rattle.std.proofs.lemmas.Bool.{cases_eq}
use Rattle.std.proofs.lemmas.List.{get_or-set_same, get_or-set_other}
use Rattle.std.specs.Int.Bits.{bit_or}
use mathlib.Core.Option.{some}
use lib.ListN.{get_elem?}
use Rattle.residue_sums.proofs.Sums.{sum_below-same}
use Rattle.block_store.specs.declared.key.BoardKey.{BoardKey}
use Rattle.block_store.specs.declared.view.Fact.TheVariants.{Marked}
use Rattle.block_store.specs.declared.view.View.{View}
use Rattle.block_store.specs.Keys.{step_count, IsStep, edge, preds}
use Rattle.block_store.specs.Tallies.{weigh, claim_of, bad_of, mark_of, notice_of, last_of, claims, marks, noticed_into, marked_into, mark}
use Rattle.block_store.specs.Rule.{AreWords, AreClaims, IsView, IsKept}
use Rattle.block_store.specs.Views.{learned}
use Rattle.block_store.proofs.Sums.{same_pair-eq, same_pair-left, same_pair-right, sum_below-mono, sum_below-one, or_mark}
use Rattle.block_store.proofs.Edges.{edge-steps, preds-le}
use Rattle.block_store.proofs.Kept.{into-le, not_marked}
use Rattle.block_store.proofs.Learning.{after, more, still, into-still, stamps-still, drawn-still, outcomes-still, kept-learned}

-- the pair (s, t), whose second step has the word m
module _ (key : BoardKey) (words : List ℕ) (views : List View) (kept : IsKept key words views) (id : ℕ) (v : View)
    (at : get_elem? views id ≡ some v) (alive : v.workers ≢ []) (s t m : ℕ) (fresh : weigh (mark_of s t) v.facts ≡ 0)
    (is_edge : 0 < edge key s t) (bad : 0 < weigh (bad_of s) v.facts) (is : get_or words t 0 ≡ m) where
  abbrev views' : List View
  views' = after views id v (Marked s t)

  abbrev words' : List ℕ
  words' = set words t (bit_or m 8589934592)

  own : IsView key (get_or words 0 0) v
  own = kept.each_view id v at

  none : marks views s t ≡ 0
  none = not_marked key words views kept id v at s t bad fresh

  step : IsStep key t
  step = (edge-steps key s t is_edge).1

  range : s < step_count key + 1
  range = let e = (edge-steps key s t is_edge).0.1 in omega arith

  -- the word with the mark, which it may have had before
  new_word : bit_or m 8589934592 + noticed_into views key t ≡ preds key t + 4294967296 * claims views t + 8589934592
  new_word =
      let w = kept.words_are.word t step in
      let c = preds-le key t in
      let d = kept.small in
      let e = kept.claims_are.once t in
      let a : ℕ = mark views key t in
      let r : ℕ = m - a * 8589934592 in
      let f : r < 8589934592 = omega (arith, into-le key words views kept t) in
      let g : m ≡ a * 8589934592 + r = omega (arith, into-le key words views kept t) in
      let h : bit_or m 8589934592 ≡ 8589934592 + r = or_mark m a r (omega arith) f g in
      omega arith

  -- ---- the tallies after it

  other : (a b : ℕ) → (a ≢ s) ⊎ (b ≢ t) → marks views' a b ≡ marks views a b
  other a b (inl ne) = omega (arith, more views id v (Marked s t) at (mark_of a b), same_pair-left s t a b (λ h. ne (sym h)))
  other a b (inr ne) = omega (arith, more views id v (Marked s t) at (mark_of a b), same_pair-right s t a b (λ h. ne (sym h)))

  here : marks views' s t ≡ 1
  here = omega (arith, more views id v (Marked s t) at (mark_of s t), same_pair-eq s t s t refl refl, none)

  into : marked_into views' key t ≡ marked_into views key t + 1
  into = omega (arith, sum_below-one (λ y. marks views y t) (λ y. marks views' y t) s (step_count key + 1) range (λ y ne. other y t (inl ne)), here, none)

  into_other : (u : ℕ) → u ≢ t → marked_into views' key u ≡ marked_into views key u
  into_other u ne = sum_below-same _ _ (step_count key + 1) (λ y q. other y u (inr ne))

  noticed_same : (u : ℕ) → noticed_into views' key u ≡ noticed_into views key u
  noticed_same u = into-still views id v (Marked s t) at key u (λ a. refl)

  claims_same : (u : ℕ) → claims views' u ≡ claims views u
  claims_same u = still views id v (Marked s t) at (claim_of u) refl

  clock_same : get_or words' 0 0 ≡ get_or words 0 0
  clock_same = get_or-set_other words t 0 (bit_or m 8589934592) 0 (λ h. omega (arith, step))

  grows : (u : ℕ) → marked_into views key u ≤ marked_into views' key u
  grows u = sum_below-mono (λ y. marks views y u) (λ y. marks views' y u) (step_count key + 1) (λ y q. omega (arith, more views id v (Marked s t) at (mark_of y u)))

  -- ---- the rule after it

  marked-words : AreWords key words' views'
  marked-words = record {
    long = omega (arith, length-set words t (bit_or m 8589934592), kept.words_are.long);
    word = λ u su. word u su (cases_eq u t);
    clock = clock_same ∙ (kept.words_are.clock ∙ sum_below-same _ _ (step_count key + 1) (λ u q. omega (arith, drawn-still views id v (Marked s t) at key u refl refl)));
  }
    where
      word : (u : ℕ) → IsStep key u → (u ≡ t) ⊎ (u ≢ t)
          → get_or words' u 0 + noticed_into views' key u ≡ preds key u + 4294967296 * claims views' u + 8589934592 * mark views' key u
      word u su (inl e) =
          let now : get_or words' u 0 ≡ bit_or m 8589934592 = ap (λ y. get_or words' y 0) e ∙ get_or-set_same words t (bit_or m 8589934592) 0 (omega (arith, kept.words_are.long, step)) in
          let new : bit_or m 8589934592 + noticed_into views key u ≡ preds key u + 4294967296 * claims views u + 8589934592
          = subst (λ y. bit_or m 8589934592 + noticed_into views key y ≡ preds key y + 4294967296 * claims views y + 8589934592) (sym e) new_word in
          let one : marked_into views' key u ≡ marked_into views key u + 1 = subst (λ y. marked_into views' key y ≡ marked_into views key y + 1) (sym e) into in
          omega (arith, noticed_same u, claims_same u)
      word u su (inr ne) = omega (arith, kept.words_are.word u su, into_other u ne, noticed_same u, claims_same u, get_or-set_other words t u (bit_or m 8589934592) 0 ne)

  marked-claims : AreClaims key views'
  marked-claims = record {
    once = λ u. omega (arith, kept.claims_are.once u, claims_same u);
    real = λ u z. kept.claims_are.real u (omega (arith, claims_same u));
    ready = λ u z. noticed_same u ∙ kept.claims_are.ready u (omega (arith, claims_same u));
    noticed = λ a b. omega (arith, kept.claims_are.noticed a b, still views id v (Marked s t) at (notice_of a b) refl);
    marked = λ a b. edges a b (cases_eq a s) (cases_eq b t);
    last = λ u z. noticed_same u ∙ kept.claims_are.last u (omega (arith, still views id v (Marked s t) at (last_of u) refl));
  }
    where
      edges : (a b : ℕ) → (a ≡ s) ⊎ (a ≢ s) → (b ≡ t) ⊎ (b ≢ t) → marks views' a b ≤ edge key a b
      edges a b (inr ne) y = omega (arith, other a b (inl ne), kept.claims_are.marked a b)
      edges a b (inl e) (inr ne) = omega (arith, other a b (inr ne), kept.claims_are.marked a b)
      edges a b (inl e) (inl f) = subst (λ y. marks views' y b ≤ edge key y b) (sym e) (subst (λ y. marks views' s y ≤ edge key s y) (sym f) (omega (arith, here)))

  own-marked : IsView key (get_or words' 0 0) (learned (Marked s t) v)
  own-marked = record {
    begun = λ u. omega (arith, own.begun u);
    ended = λ u. omega (arith, own.ended u);
    marked = λ a b. mine a b (cases_eq a s) (cases_eq b t);
    noticed = λ a b. omega (arith, own.noticed a b);
    outcomes = outcomes-still views id v (Marked s t) key (λ u n o e. cc) own.outcomes;
    loaded = omega (arith, own.loaded, clock_same);
    spent = λ e. absurd (alive e);
    knows = own.knows;
  }
    where
      mine : (a b : ℕ) → (a ≡ s) ⊎ (a ≢ s) → (b ≡ t) ⊎ (b ≢ t) → weigh (mark_of a b) (Marked s t ∷ v.facts) ≤ weigh (bad_of a) (Marked s t ∷ v.facts)
      mine a b (inr ne) y = omega (arith, same_pair-left s t a b (λ h. ne (sym h)), own.marked a b)
      mine a b (inl e) (inr ne) = omega (arith, same_pair-right s t a b (λ h. ne (sym h)), own.marked a b)
      mine a b (inl e) (inl f) = omega (
        arith,
        same_pair-eq s t a b (sym e) (sym f),
        fresh,
        bad,
        ap (λ y. weigh (mark_of y b) v.facts) e,
        ap (λ y. weigh (mark_of s y) v.facts) f,
        ap (λ y. weigh (bad_of y) v.facts) e,
      )

  pub marked : IsKept key words' views'
  marked = kept-learned key words words' views kept id v at (Marked s t) marked-words marked-claims
      (stamps-still views id v (Marked s t) at key (get_or words 0 0) (get_or words' 0 0) clock_same (λ n. refl) (λ u. refl) (λ u. refl) kept.stamps_are)
      (omega (arith, clock_same)) own-marked grows
