-- The exchange that claims a step is allowed, whatever it finds.
use Rattle.std.proofs.Common.{◌≡◌, ◌≢◌, ℕ, zero, suc, ◌+◌, ◌<◌, ◌⊎◌, inl, inr, eqb, eq-eqb, ne_eqb, cond, List, [], ◌∷◌, get_or, set, Some, None, refl, sym, ap, ◌∙◌, subst, arith}
use Rattle.std.proofs.lemmas.List.{set-get_or}
use Rattle.std.proofs.lemmas.Bool.{cases_eq}
use mathlib.Core.Option.{some, some-ne-none}
use mathlib.Core.Option as maybe
use lib.ListN.{get_elem?}
use Rattle.residue_sums.specs.Grids.{Grid}
use Rattle.block_store.specs.Holding.{IsRuled}
use Rattle.block_store.proofs.HeldViews.{held-quiet, held-still}
use prog.Atomic.{either}
use Rattle.atomic_table.specs.Table.{Me, Allows}
use Rattle.atomic_table.proofs.Lists.{exchanged}
use Rattle.block_store.specs.declared.key.BoardKey.{BoardKey}
use Rattle.block_store.specs.declared.view.Fact.TheVariants.{Claimed, Refused}
use Rattle.block_store.specs.declared.view.View.{View}
use Rattle.block_store.specs.Keys.{IsStep}
use Rattle.block_store.specs.Tallies.{weigh, claim_of, begin_of, end_of, good_of, bad_of, put_of, claims, marked_into}
use Rattle.block_store.specs.Rule.{IsKept}
use Rattle.block_store.specs.Views.{learned}
use Rattle.block_store.specs.Plays.{claim_view, IsTaken, IsFresh}
use Rattle.block_store.proofs.Tallies.{amount-has, weigh-sum}
use Rattle.block_store.proofs.Edges.{preds-le}
use Rattle.block_store.proofs.Kept.{end-split, into-le}
use Rattle.block_store.proofs.ClaimMoves.{claimed, refused}
use Rattle.block_store.proofs.QuietMoves.{quiet}
use Rattle.block_store.proofs.Allowing.{allows, held-apart}

-- ---- lists

set_there : {A : Type 0} (l : List A) (i : ℕ) (a b : A) → get_elem? l i ≡ some a → get_elem? (set l i b) i ≡ some b
set_there [] i a b e = absurd (some-ne-none a (sym e))
set_there (x ∷ xs) zero a b e = refl
set_there (x ∷ xs) (suc i) a b e = set_there xs i a b e

set_set : {A : Type 0} (l : List A) (i : ℕ) (a b : A) → set (set l i a) i b ≡ set l i b
set_set [] i a b = refl
set_set (x ∷ xs) zero a b = refl
set_set (x ∷ xs) (suc i) a b = ap (λ ys. x ∷ ys) (set_set xs i a b)

-- ---- the view after it, by the number found

-- the seat's view with no mark in mind, and with the mark of t
abbrev pub calm : View → View
calm v = record v { found_mark = None }

abbrev pub with_mark : ℕ → View → View
with_mark t v = record v { found_mark = Some t }

module _ (first t n : ℕ) (v : View) where
  pub hit : n ≡ first → claim_view first t n v ≡ learned (Claimed t) (calm v)
  hit e = ap (λ b. cond b (learned (Claimed t) (calm v)) (cond (eqb n 8589934592) (with_mark t v) (learned (Refused t n) (calm v)))) (eq-eqb n first e)

  pub bare : n ≢ first → n ≡ 8589934592 → claim_view first t n v ≡ with_mark t v
  bare ne e = ap (λ b. cond b (learned (Claimed t) (calm v)) (cond (eqb n 8589934592) (with_mark t v) (learned (Refused t n) (calm v)))) (ne_eqb n first ne)
      ∙ ap (λ b. cond b (with_mark t v) (learned (Refused t n) (calm v))) (eq-eqb n 8589934592 e)

  pub missed : n ≢ first → n ≢ 8589934592 → claim_view first t n v ≡ learned (Refused t n) (calm v)
  missed ne other = ap (λ b. cond b (learned (Claimed t) (calm v)) (cond (eqb n 8589934592) (with_mark t v) (learned (Refused t n) (calm v)))) (ne_eqb n first ne)
      ∙ ap (λ b. cond b (with_mark t v) (learned (Refused t n) (calm v))) (ne_eqb n 8589934592 other)

-- ---- what it tells

abbrev pub TellsClaimed : Me Grid View → ℕ → ℕ → ℕ → Me Grid View → Type 0
TellsClaimed me first t n next = (next.0 ≡ claim_view first t n me.0) × IsTaken t n me.0 × (n ≡ first → IsFresh t me.0) × (next.1 ≡ me.1)

module _ (key : BoardKey) (id : ℕ) (me : Me Grid View) (words : List ℕ) (homes : List (maybe.Option Grid)) (views : List View)
    (ruled : IsRuled key words homes views) (at : get_elem? views id ≡ some me.0) (t : ℕ) (step : IsStep key t) where
  kept : IsKept key words views
  kept = ruled.kept

  taken : IsTaken t (get_or words t 0) me.0
  taken other (inl nz) =
      let w = kept.words_are.word t step in
      let a = kept.claims_are.once t in
      let b = into-le key words views kept t in
      let c = preds-le key t in
      let d = kept.small in
      omega arith
  taken other (inr found) =
      let w = kept.words_are.word t step in
      let a = kept.claims_are.once t in
      let b = into-le key words views kept t in
      let c = preds-le key t in
      let d = kept.small in
      let e : 0 < marked_into views key t = kept.found_marks id me.0 at t found in
      omega arith

  -- where the word is 0 or the bare mark, nobody has claimed t, and this seat has nothing of it
  is_fresh : (get_or words t 0 ≡ 0) ⊎ (get_or words t 0 ≡ 8589934592) → IsFresh t me.0
  is_fresh free =
      let own = kept.each_view id me.0 at in
      let none : claims views t ≡ 0 = elim free [
        | inl e ↦ omega (arith, kept.words_are.word t step, kept.claims_are.once t, into-le key words views kept t, preds-le key t, kept.small)
        | inr e ↦ omega (arith, kept.words_are.word t step, kept.claims_are.once t, into-le key words views kept t, preds-le key t, kept.small)
      ] in
      let claim : weigh (claim_of t) me.0.facts ≡ 0 = omega (arith, amount-has (claim_of t) views id me.0 at) in
      let begin : weigh (begin_of t) me.0.facts ≡ 0 = omega (arith, own.begun t) in
      let end : weigh (end_of t) me.0.facts ≡ 0 = omega (arith, own.ended t) in
      let both = weigh-sum (end_of t) (good_of t) (bad_of t) (end-split t) me.0.facts in
      let put : weigh (put_of t) me.0.facts ≡ 0 = omega (arith, (ruled.held.holders id me.0 at).puts_begun t) in
      record { claim = claim; begin = begin; end = end; put = put; notices = λ u. omega (arith, own.noticed t u, own.marked t u); marks = λ u. omega (arith, own.marked t u) }

  -- a bare mark that is found stands
  stands : get_or words t 0 ≡ 8589934592 → (u : ℕ) → Some t ≡ Some u → 0 < marked_into views key u
  stands e u is =
      let w = kept.words_are.word t step in
      let a = kept.claims_are.once t in
      let b = into-le key words views kept t in
      let c = preds-le key t in
      let d = kept.small in
      let same : t ≡ u = cc in
      subst (λ y. 0 < marked_into views key y) same (omega arith)

  -- the rule with this seat's view calmed, and the seat's place in it
  abbrev views' : List View
  views' = set views id (calm me.0)

  calmed : IsRuled key words homes views'
  calmed = record {
    kept = quiet key words views kept id me.0 at me.0.clock None (kept.each_view id me.0 at).loaded (λ u none. absurd (cc));
    held = held-quiet key words homes views kept ruled.held id me.0 at me.0.clock None;
  }

  calmed-at : get_elem? views' id ≡ some (calm me.0)
  calmed-at = set_there views id me.0 (calm me.0) at

  module _ (alive : me.0.workers ≢ []) (old new : ℕ) (free : (old ≡ 0) ⊎ (old ≡ 8589934592)) (is : new ≡ old + 4294967296) where
    -- a view that keeps the rule, where x stands in the word, and is what the exchange tells
    abbrev Goes : ℕ → Type 0
    Goes x = (w : View) × IsRuled key (set words t x) homes (set views id w) × TellsClaimed me old t (get_or words t 0) (w, me.1)

    hits : get_or words t 0 ≡ old → Goes new
    hits e =
        let n : ℕ = get_or words t 0 in
        let found : (n ≡ 0) ⊎ (n ≡ 8589934592) = subst (λ y. (y ≡ 0) ⊎ (y ≡ 8589934592)) (sym e) free in
        let w : View = learned (Claimed t) (calm me.0) in
        let after : IsRuled key (set words t (n + 4294967296)) homes (set views' id w) = record {
          kept = claimed key words views' calmed.kept id (calm me.0) calmed-at alive t n step refl found;
          held = held-apart key words homes views' calmed id (calm me.0) calmed-at t (n + 4294967296) step.1 (Claimed t) (λ x. refl) (λ x. refl) (λ u. refl) (λ u. refl);
        } in
        let same : n + 4294967296 ≡ new = omega arith in (
          w,
          subst (λ y. IsRuled key (set words t y) homes (set views id w)) same (subst (IsRuled key (set words t (n + 4294967296)) homes) (set_set views id (calm me.0) w) after),
          (sym (hit old t n me.0 e), taken, λ d. is_fresh found, refl),
        )

    misses : get_or words t 0 ≢ old → (get_or words t 0 ≡ 8589934592) ⊎ (get_or words t 0 ≢ 8589934592) → Goes (get_or words t 0)
    misses ne (inl e) =
        let w : View = with_mark t me.0 in
        let after : IsRuled key words homes (set views id w) = record {
          kept = quiet key words views kept id me.0 at me.0.clock (Some t) (kept.each_view id me.0 at).loaded (stands e);
          held = held-quiet key words homes views kept ruled.held id me.0 at me.0.clock (Some t);
        } in (
          w,
          subst (λ y. IsRuled key y homes (set views id w)) (sym (set-get_or words t 0)) after,
          (sym (bare old t (get_or words t 0) me.0 ne e), taken, λ d. absurd (ne d), refl),
        )
    misses ne (inr other) =
        let n : ℕ = get_or words t 0 in
        let w : View = learned (Refused t n) (calm me.0) in
        let after : IsRuled key words homes (set views' id w) = record {
          kept = refused key words views' calmed.kept id (calm me.0) calmed-at alive t n;
          held = held-still key words homes views' calmed.kept calmed.held id (calm me.0) calmed-at words (Refused t n) refl (λ x. refl) (λ x. refl) (λ x. refl) (λ u. refl) (λ u. refl);
        } in (
          w,
          subst (λ y. IsRuled key y homes (set views id w)) (sym (set-get_or words t 0)) (subst (IsRuled key words homes) (set_set views id (calm me.0) w) after),
          (sym (missed old t n me.0 ne other), taken, λ d. absurd (ne d), refl),
        )

pub claims_allowed : (key : BoardKey) (slots id : ℕ) (me : Me Grid View) → me.0.workers ≢ [] → (old new t : ℕ) → IsStep key t → (old ≡ 0) ⊎ (old ≡ 8589934592)
    → new ≡ old + 4294967296 → Allows (λ s. IsRuled key s.words s.homes s.views) slots id me t (λ n. either (eqb n old) new n) (TellsClaimed me old t)
claims_allowed key slots id me alive old new t step free is = allows key slots id me t (λ n. either (eqb n old) new n) (TellsClaimed me old t) (λ words homes views ruled at fits.
    exchanged (get_or words t 0) old new (Goes key id me words homes views ruled at t step alive old new free is)
    (λ e. hits key id me words homes views ruled at t step alive old new free is e)
    (λ ne. misses key id me words homes views ruled at t step alive old new free is ne (cases_eq (get_or words t 0) 8589934592)))
