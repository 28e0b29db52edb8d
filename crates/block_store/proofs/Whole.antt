-- A seat that stands for all workers has all that the rule says of all seats.
use Rattle.std.proofs.Common.{◌≡◌, ◌≢◌, ℕ, zero, suc, ◌+◌, ◌≤◌, ◌⊎◌, inl, inr, List, [], ◌∷◌, get_or, set, refl, sym, ap, ◌∙◌, arith}
use mathlib.Core.Option.{some, some-injective, some-ne-none}
use lib.ListN.{get_elem?}
use Rattle.atomic_table.proofs.Lists.{at_set, set_else}
use Rattle.residue_sums.proofs.Sums.{sum_below-same}
use Rattle.block_store.specs.declared.key.BoardKey.{BoardKey}
use Rattle.block_store.specs.declared.view.Fact.{Fact}
use Rattle.block_store.specs.declared.view.View.{View}
use Rattle.block_store.specs.Keys.{step_count}
use Rattle.block_store.specs.Tallies.{weigh, amount, stand_for, count_in, claim_of, begin_of, end_of, mark_of, notice_of, last_of, stamp_of, start_of, finish_of}
use Rattle.block_store.specs.Rule.{IsView, IsKept}
use Rattle.block_store.specs.Plays.{StandsForAll, IsWhole}
use Rattle.block_store.proofs.Sums.{same-eq}
use Rattle.block_store.proofs.Tallies.{amount-set, stand_for-set}
use Rattle.block_store.proofs.Kept.{claims-same, stamps-same}

none-in : (ks : List ℕ) → ((k : ℕ) → count_in k ks ≡ 0) → ks ≡ []
none-in [] z = refl
none-in (k ∷ ks) z = absurd (omega (arith, z k, same-eq k k refl))

stand-has : (k : ℕ) (views : List View) (j : ℕ) (u : View) → get_elem? views j ≡ some u → count_in k u.workers ≤ stand_for k views
stand-has k [] j u at = absurd (some-ne-none u (sym at))
stand-has k (v ∷ views) zero u at = let e : count_in k v.workers ≡ count_in k u.workers = ap (λ (x : View). count_in k x.workers) (some-injective v u at) in omega arith
stand-has k (v ∷ views) (suc j) u at = omega (arith, stand-has k views j u at)

amount-none : (h : Fact → ℕ) (views : List View) → ((j : ℕ) (u : View) → get_elem? views j ≡ some u → u.facts ≡ []) → amount h views ≡ 0
amount-none h [] none = refl
amount-none h (v ∷ views) none = let e : weigh h v.facts ≡ 0 = ap (weigh h) (none 0 v refl) in omega (arith, amount-none h views (λ j u at. none (suc j) u at))

module _ (key : BoardKey) (words : List ℕ) (views : List View) (kept : IsKept key words views) (id : ℕ) (v : View) (at : get_elem? views id ≡ some v) (all : StandsForAll key v) where
  without : List View
  without = set views id (record v { workers = []; facts = [] })

  pub others-idle : (j : ℕ) (u : View) → get_elem? views j ≡ some u → j ≢ id → u.workers ≡ []
  unfolding without
  others-idle j u there ne = none-in u.workers (λ k.
      let there' : get_elem? without j ≡ some u = set_else views id j (record v { workers = []; facts = [] }) ne ∙ there in
      omega (arith, stand-has k without j u there', stand_for-set k views id v (record v { workers = []; facts = [] }) at, all k, kept.workers_are k))

  pub alone : (h : Fact → ℕ) → amount h views ≡ weigh h v.facts
  unfolding without
  alone h = omega (arith, amount-set h views id v (record v { workers = []; facts = [] }) at, amount-none h without (λ j u there. go j u (at_set views id j (record v { workers = []; facts = [] }) u there)))
    where
      go : (j : ℕ) (u : View) → ((j ≡ id) × (record v { workers = []; facts = [] } ≡ u)) ⊎ ((j ≢ id) × (get_elem? views j ≡ some u)) → u.facts ≡ []
      go j u (inl h) = sym (ap (λ (x : View). x.facts) h.1)
      go j u (inr h) = (kept.each_view j u h.1).spent (others-idle j u h.1 h.0)

  -- what the rule says of all views, it says of this one
  pub whole : (w : View) → w.facts ≡ v.facts → IsView key (get_or words 0 0) w → IsWhole key (get_or words 0 0) w
  whole w is own = record {
    claims_are = claims-same key views (w ∷ []) (λ t. one (claim_of t)) (λ s t. one (notice_of s t)) (λ s t. one (mark_of s t)) (λ t. one (last_of t)) kept.claims_are;
    stamps_are = stamps-same key (get_or words 0 0) (get_or words 0 0) views (w ∷ []) refl (λ n. one (stamp_of n)) (λ t. one (begin_of t)) (λ t. one (end_of t))
        (λ t. one (start_of t)) (λ t. one (finish_of t)) kept.stamps_are;
    drawn_are = kept.words_are.clock ∙ sym (sum_below-same _ _ (step_count key + 1) (λ t q. omega (arith, one (begin_of t), one (end_of t))));
    own = own;
  }
    where
      one : (h : Fact → ℕ) → amount h (w ∷ []) ≡ amount h views
      one h = let e : weigh h w.facts ≡ weigh h v.facts = ap (weigh h) is in omega (arith, alone h)
