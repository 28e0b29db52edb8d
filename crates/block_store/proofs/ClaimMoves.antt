-- A seat claims a step, or is refused it: both keep the rule.
use Rattle.std.proofs.Common.{◌≡◌, ◌≢◌, ℕ, ◌+◌, ◌*◌, ◌<◌, ◌≤◌, ◌⊎◌, inl, inr, List, [], get_or, set, refl, sym, ap, ◌∙◌, subst, arith}
use Rattle.std.proofs.Math.ListN.{length-set}
use Rattle.std.proofs.lemmas.Bool.{cases_eq}
use Rattle.std.proofs.lemmas.List.{get_or-set_same, get_or-set_other}
use mathlib.Core.Option.{some}
use lib.ListN.{get_elem?}
use Rattle.residue_sums.proofs.Sums.{sum_below-same}
use Rattle.block_store.specs.declared.key.BoardKey.{BoardKey}
use Rattle.block_store.specs.declared.view.Fact.TheVariants.{Claimed, Refused}
use Rattle.block_store.specs.declared.view.View.{View}
use Rattle.block_store.specs.Keys.{step_count, IsStep, preds}
use Rattle.block_store.specs.Tallies.{claim_of, notice_of, mark_of, last_of, claims, noticed_into, marked_into, mark}
use Rattle.block_store.specs.Rule.{AreWords, AreClaims, IsView, IsKept}
use Rattle.block_store.specs.Views.{learned}
use Rattle.block_store.proofs.Sums.{same-eq, same-ne}
use Rattle.block_store.proofs.Edges.{preds-le}
use Rattle.block_store.proofs.Kept.{into-le, words-same}
use Rattle.block_store.proofs.Learning.{after, more, still, into-still, marked-still, claims-still, stamps-still, drawn-still, outcomes-still, kept-learned}

module _ (key : BoardKey) (words : List ℕ) (views : List View) (kept : IsKept key words views) (id : ℕ) (v : View)
    (at : get_elem? views id ≡ some v) (alive : v.workers ≢ []) where
  own : IsView key (get_or words 0 0) v
  own = kept.each_view id v at

  -- a view that learned a fact which is no start, finish, mark or notice
  pub own-claimed : (clock t : ℕ) → get_or words 0 0 ≤ clock → IsView key clock (learned (Claimed t) v)
  own-claimed clock t le = record {
    begun = λ u. omega (arith, own.begun u);
    ended = λ u. omega (arith, own.ended u);
    marked = λ s u. omega (arith, own.marked s u);
    noticed = λ s u. omega (arith, own.noticed s u);
    outcomes = outcomes-still views id v (Claimed t) key (λ u m o e. cc) own.outcomes;
    loaded = omega (arith, own.loaded);
    spent = λ e. absurd (alive e);
    knows = own.knows;
  }

  own-refused : (t n : ℕ) → IsView key (get_or words 0 0) (learned (Refused t n) v)
  own-refused t n = record {
    begun = λ u. omega (arith, own.begun u);
    ended = λ u. omega (arith, own.ended u);
    marked = λ s u. omega (arith, own.marked s u);
    noticed = λ s u. omega (arith, own.noticed s u);
    outcomes = outcomes-still views id v (Refused t n) key (λ u m o e. cc) own.outcomes;
    loaded = own.loaded;
    spent = λ e. absurd (alive e);
    knows = own.knows;
  }

  -- the word was another, and stays
  pub refused : (t n : ℕ) → IsKept key words (after views id v (Refused t n))
  refused t n = kept-learned key words words views kept id v at (Refused t n)
      (words-same key words views (after views id v (Refused t n)) (λ u. still views id v (Refused t n) at (claim_of u) refl)
      (λ s u. still views id v (Refused t n) at (notice_of s u) refl) (λ s u. still views id v (Refused t n) at (mark_of s u) refl)
      (λ u. drawn-still views id v (Refused t n) at key u refl refl) kept.words_are)
      (claims-still views id v (Refused t n) at key (λ u. refl) (λ s u. refl) (λ s u. refl) (λ u. refl) kept.claims_are)
      (stamps-still views id v (Refused t n) at key (get_or words 0 0) (get_or words 0 0) refl (λ m. refl) (λ u. refl) (λ u. refl) kept.stamps_are)
      (omega arith) (own-refused t n) (λ u. omega (arith, marked-still views id v (Refused t n) at key u (λ s. refl)))

  -- the word of t was n, which is 0 or the bare mark
  module _ (t n : ℕ) (step : IsStep key t) (is : get_or words t 0 ≡ n) (free : (n ≡ 0) ⊎ (n ≡ 8589934592)) where
    abbrev views' : List View
    views' = after views id v (Claimed t)

    abbrev words' : List ℕ
    words' = set words t (n + 4294967296)

    clock_same : get_or words' 0 0 ≡ get_or words 0 0
    clock_same = get_or-set_other words t 0 (n + 4294967296) 0 (λ h. omega (arith, step))

    claims-here : (u : ℕ) → u ≡ t → claims views' u ≡ claims views u + 1
    claims-here u e = omega (arith, more views id v (Claimed t) at (claim_of u), same-eq t u (sym e))

    claims-there : (u : ℕ) → u ≢ t → claims views' u ≡ claims views u
    claims-there u ne = omega (arith, more views id v (Claimed t) at (claim_of u), same-ne t u (λ h. ne (sym h)))

    into : (u : ℕ) → noticed_into views' key u ≡ noticed_into views key u
    into u = into-still views id v (Claimed t) at key u (λ s. refl)

    marked : (u : ℕ) → marked_into views' key u ≡ marked_into views key u
    marked u = marked-still views id v (Claimed t) at key u (λ s. refl)

    claimed-words : AreWords key words' views'
    claimed-words = record {
      long = omega (arith, length-set words t (n + 4294967296), kept.words_are.long);
      word = λ u su. go u su (cases_eq u t);
      clock = clock_same ∙ (kept.words_are.clock ∙ sum_below-same _ _ (step_count key + 1) (λ u q. omega (arith, drawn-still views id v (Claimed t) at key u refl refl)));
    }
      where
        go : (u : ℕ) → IsStep key u → (u ≡ t) ⊎ (u ≢ t)
            → get_or words' u 0 + noticed_into views' key u ≡ preds key u + 4294967296 * claims views' u + 8589934592 * mark views' key u
        go u su (inl e) =
            let here : get_or words' u 0 ≡ n + 4294967296 = ap (λ x. get_or words' x 0) e ∙ get_or-set_same words t (n + 4294967296) 0 (omega (arith, kept.words_are.long, step)) in
            let found : get_or words u 0 ≡ n = ap (λ x. get_or words x 0) e ∙ is in
            omega (arith, kept.words_are.word u su, into u, marked u, claims-here u e)
        go u su (inr ne) = omega (arith, kept.words_are.word u su, into u, marked u, claims-there u ne, get_or-set_other words t u (n + 4294967296) 0 ne)

    -- nobody has claimed t, and each edge into it is noticed
    bare : (claims views t ≡ 0) × (noticed_into views key t ≡ preds key t)
    bare = let w = kept.words_are.word t step in let c = kept.claims_are.once t in elim free as (λ h. (claims views t ≡ 0) × (noticed_into views key t ≡ preds key t)) [
      | inl e ↦ (omega (arith, into-le key words views kept t, preds-le key t, kept.small), omega (arith, into-le key words views kept t, preds-le key t, kept.small))
      | inr e ↦ (omega (arith, into-le key words views kept t, preds-le key t, kept.small), omega (arith, into-le key words views kept t, preds-le key t, kept.small))
    ]

    claimed-claims : AreClaims key views'
    claimed-claims = record {
      once = λ u. once u (cases_eq u t);
      real = λ u. real u (cases_eq u t);
      ready = λ u. ready u (cases_eq u t);
      noticed = λ s u. omega (arith, kept.claims_are.noticed s u, still views id v (Claimed t) at (notice_of s u) refl);
      marked = λ s u. omega (arith, kept.claims_are.marked s u, still views id v (Claimed t) at (mark_of s u) refl);
      last = λ u z. omega (arith, kept.claims_are.last u (omega (arith, still views id v (Claimed t) at (last_of u) refl)), into u);
    }
      where
        once : (u : ℕ) → (u ≡ t) ⊎ (u ≢ t) → claims views' u ≤ 1
        once u (inl e) = omega (arith, bare.0, ap (λ y. claims views y) e, claims-here u e)
        once u (inr ne) = omega (arith, claims-there u ne, kept.claims_are.once u)

        real : (u : ℕ) → (u ≡ t) ⊎ (u ≢ t) → 0 < claims views' u → IsStep key u
        real u (inl e) z = subst (IsStep key) (sym e) step
        real u (inr ne) z = kept.claims_are.real u (omega (arith, claims-there u ne))

        ready : (u : ℕ) → (u ≡ t) ⊎ (u ≢ t) → 0 < claims views' u → noticed_into views' key u ≡ preds key u
        ready u (inl e) z = into u ∙ subst (λ y. noticed_into views key y ≡ preds key y) (sym e) bare.1
        ready u (inr ne) z = omega (arith, into u, kept.claims_are.ready u (omega (arith, claims-there u ne)))

    pub claimed : IsKept key words' views'
    claimed = kept-learned key words words' views kept id v at (Claimed t) claimed-words claimed-claims
        (stamps-still views id v (Claimed t) at key (get_or words 0 0) (get_or words' 0 0) clock_same (λ m. refl) (λ u. refl) (λ u. refl) kept.stamps_are)
        (omega (arith, clock_same)) (own-claimed (get_or words' 0 0) t (omega (arith, clock_same))) (λ u. omega (arith, marked u))
