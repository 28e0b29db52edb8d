-- Seats that are split and joined keep the rule.
use Rattle.std.proofs.Common.{◌≡◌, ◌≢◌, ℕ, ◌+◌, ◌<◌, ◌≤◌, ◌⊎◌, inl, inr, List, [], ◌∷◌, ◌++◌, length, get_or, set, Some, None, refl, sym, ap, ◌∙◌, subst, arith}
use mathlib.Core.Option.{some}
use lib.ListN.{get_elem?}
use Rattle.residue_sums.specs.Grids.{Grid}
use Rattle.block_store.specs.Holding.{IsHolder, IsRuled}
use Rattle.block_store.proofs.HeldViews.{held-same, holders-after}
use Rattle.atomic_table.specs.Table.{State, Splits, Joins}
use Rattle.atomic_table.proofs.Lists.{at_set, set_else, at_snoc}
use Rattle.block_store.specs.declared.key.BoardKey.{BoardKey}
use Rattle.block_store.specs.declared.outcome.StepOutcome.{StepOutcome}
use Rattle.block_store.specs.declared.view.Fact.{Fact}
use Rattle.block_store.specs.declared.view.Fact.TheVariants.{Ended}
use Rattle.block_store.specs.declared.view.View.{View}
use Rattle.block_store.specs.Keys.{IsOutcome}
use Rattle.block_store.specs.Tallies.{In, weigh, amount, stand_for, count_in, claim_of, begin_of, end_of, good_of, bad_of, mark_of, notice_of, took_of, gave_of, put_of}
use Rattle.block_store.specs.Rule.{IsView, IsKept}
use Rattle.block_store.specs.Views.{both_views, spent_view, kept_view, new_view, first_of, rest_of}
use Rattle.block_store.proofs.Tallies.{amount-set, stand_for-set}
use Rattle.block_store.proofs.QuietMoves.{IsRight, kept-same}

-- ---- lists of facts, views and workers

pub weigh-append : (h : Fact → ℕ) (xs ys : List Fact) → weigh h (xs ++ ys) ≡ weigh h xs + weigh h ys
weigh-append h [] ys = omega arith
weigh-append h (x ∷ xs) ys = omega (arith, weigh-append h xs ys)

pub count-append : (worker : ℕ) (xs ys : List ℕ) → count_in worker (xs ++ ys) ≡ count_in worker xs + count_in worker ys
count-append worker [] ys = omega arith
count-append worker (x ∷ xs) ys = omega (arith, count-append worker xs ys)

pub in-append : (f : Fact) (xs ys : List Fact) → In f (xs ++ ys) → In f xs ⊎ In f ys
in-append f [] ys h = inr h
in-append f (x ∷ xs) ys (inl e) = inl (inl e)
in-append f (x ∷ xs) ys (inr h) = elim (in-append f xs ys h) [ inl l ↦ inl (inr l) | inr r ↦ inr r ]

amount-snoc : (h : Fact → ℕ) (views : List View) (w : View) → amount h (views ++ w ∷ []) ≡ amount h views + weigh h w.facts
amount-snoc h [] w = omega arith
amount-snoc h (v ∷ views) w = omega (arith, amount-snoc h views w)

stand_for-snoc : (worker : ℕ) (views : List View) (w : View) → stand_for worker (views ++ w ∷ []) ≡ stand_for worker views + count_in worker w.workers
stand_for-snoc worker [] w = omega arith
stand_for-snoc worker (v ∷ views) w = omega (arith, stand_for-snoc worker views w)

front-not_empty : (xs ys : List ℕ) → xs ≢ [] → xs ++ ys ≢ []
front-not_empty [] ys ne e = absurd (ne refl)
front-not_empty (x ∷ xs) ys ne e = cc

pub first-rest : (worker : ℕ) (workers : List ℕ) → count_in worker (rest_of workers) + count_in worker (first_of workers) ≡ count_in worker workers
first-rest worker [] = refl
first-rest worker (x ∷ workers) = omega arith

rest-some : (workers : List ℕ) → 1 < length workers → (rest_of workers ≢ []) × (first_of workers ≢ []) × (workers ≢ [])
rest-some [] h = absurd (omega arith)
rest-some (x ∷ []) h = absurd (omega arith)
rest-some (x ∷ (y ∷ workers)) h = ((λ e. cc), (λ e. cc), (λ e. cc))

-- ---- a view without facts is right

idle : (key : BoardKey) (clock : ℕ) (views : List View) (v : View) → v.facts ≡ [] → v.clock ≤ clock → v.found_mark ≡ None → (v.workers ≢ [] → v.key ≡ key)
    → IsRight key clock views v
idle key clock views v none loaded calm knows = (
  record {
    begun = λ t. no_weight (begin_of t) (claim_of t) (λ f. f);
    ended = λ t. no_weight (end_of t) (begin_of t) (λ f. f);
    marked = λ s t. no_weight (mark_of s t) (bad_of s) (λ f. f);
    noticed = λ s t. let z : weigh (notice_of s t) v.facts ≡ 0 = ap (weigh (notice_of s t)) none in omega arith;
    outcomes = λ t n o h. absurd (subst (In (Ended t n o)) none h);
    loaded = loaded;
    spent = λ z. none;
    knows = knows;
  },
  λ t found. absurd (let e : None ≡ Some t = sym calm ∙ found in cc),
)
  where
    no_weight : (h k : Fact → ℕ) → (ℕ → ℕ) → weigh h v.facts ≤ weigh k v.facts
    no_weight h k f = let z : weigh h v.facts ≡ 0 = ap (weigh h) none in omega arith

module _ (key : BoardKey) (id : ℕ) (v : View) where
  -- ---- a seat is split

  kept-split : 1 < length v.workers → (s : State Grid View) → IsKept key s.words s.views → get_elem? s.views id ≡ some v
      → IsKept key s.words (set s.views id (kept_view v) ++ new_view v ∷ [])
  kept-split many s kept at =
      kept-same key s.words s.views (set s.views id (kept_view v) ++ new_view v ∷ []) kept
      (λ h. omega (arith, amount-snoc h (set s.views id (kept_view v)) (new_view v), amount-set h s.views id v (kept_view v) at))
      (λ k. omega (arith, stand_for-snoc k (set s.views id (kept_view v)) (new_view v), stand_for-set k s.views id v (kept_view v) at, first-rest k v.workers))
      (λ j u there. go j u (at_snoc (set s.views id (kept_view v)) (new_view v) u j there))
    where
      x : IsView key (get_or s.words 0 0) v
      x = kept.each_view id v at

      new : IsRight key (get_or s.words 0 0) s.views (new_view v)
      new = idle key (get_or s.words 0 0) s.views (new_view v) refl x.loaded refl (λ z. x.knows (rest-some v.workers many).2)

      old : IsRight key (get_or s.words 0 0) s.views (kept_view v)
      old = (
        record {
          begun = x.begun;
          ended = x.ended;
          marked = x.marked;
          noticed = x.noticed;
          outcomes = x.outcomes;
          loaded = x.loaded;
          spent = λ z. absurd ((rest-some v.workers many).0 z);
          knows = λ z. x.knows (rest-some v.workers many).2;
        },
        kept.found_marks id v at,
      )

      go : (j : ℕ) (u : View) → (get_elem? (set s.views id (kept_view v)) j ≡ some u) ⊎ (new_view v ≡ u) → IsRight key (get_or s.words 0 0) s.views u
      go j u (inr e) = subst (IsRight key (get_or s.words 0 0) s.views) e new
      go j u (inl there) = elim (at_set s.views id j (kept_view v) u there) [
        | inl h ↦ subst (IsRight key (get_or s.words 0 0) s.views) h.1 old
        | inr h ↦ (kept.each_view j u h.1, kept.found_marks j u h.1)
      ]

  -- ---- two seats are joined

  kept-joined : (other : ℕ) (w : View) → v.workers ≢ [] → (s : State Grid View) → IsKept key s.words s.views → get_elem? s.views id ≡ some v → other ≢ id
      → get_elem? (set s.views id (both_views v w)) other ≡ some w → IsKept key s.words (set (set s.views id (both_views v w)) other spent_view)
  kept-joined other w alive s kept at ne there =
      kept-same key s.words s.views (set (set s.views id (both_views v w)) other spent_view) kept
      (λ h. omega (arith, amount-set h (set s.views id (both_views v w)) other w spent_view there, amount-set h s.views id v (both_views v w) at, weigh-append h v.facts w.facts))
      (λ k. omega (arith, stand_for-set k (set s.views id (both_views v w)) other w spent_view there, stand_for-set k s.views id v (both_views v w) at, count-append k v.workers w.workers))
      (λ j u here. go j u (at_set (set s.views id (both_views v w)) other j spent_view u here))
    where
      before : get_elem? s.views other ≡ some w
      before = sym (set_else s.views id other (both_views v w) ne) ∙ there

      spent : IsRight key (get_or s.words 0 0) s.views spent_view
      spent = idle key (get_or s.words 0 0) s.views spent_view refl (omega arith) refl (λ z. absurd (z refl))

      x : IsView key (get_or s.words 0 0) v
      x = kept.each_view id v at

      y : IsView key (get_or s.words 0 0) w
      y = kept.each_view other w before

      outs : (t n : ℕ) (o : StepOutcome) → In (Ended t n o) v.facts ⊎ In (Ended t n o) w.facts → IsOutcome key t o
      outs t n o (inl h) = x.outcomes t n o h
      outs t n o (inr h) = y.outcomes t n o h

      both : IsRight key (get_or s.words 0 0) s.views (both_views v w)
      both = (
        record {
          begun = λ t. omega (arith, x.begun t, y.begun t, weigh-append (begin_of t) v.facts w.facts, weigh-append (claim_of t) v.facts w.facts);
          ended = λ t. omega (arith, x.ended t, y.ended t, weigh-append (end_of t) v.facts w.facts, weigh-append (begin_of t) v.facts w.facts);
          marked = λ a b. omega (arith, x.marked a b, y.marked a b, weigh-append (mark_of a b) v.facts w.facts, weigh-append (bad_of a) v.facts w.facts);
          noticed = λ a b. omega (arith, x.noticed a b, y.noticed a b, weigh-append (notice_of a b) v.facts w.facts, weigh-append (good_of a) v.facts w.facts, weigh-append (mark_of a b) v.facts w.facts);
          outcomes = λ t n o h. outs t n o (in-append (Ended t n o) v.facts w.facts h);
          loaded = omega (arith, x.loaded, y.loaded);
          spent = λ z. absurd (front-not_empty v.workers w.workers alive z);
          knows = λ z. x.knows alive;
        },
        λ t found. absurd (cc),
      )

      go : (j : ℕ) (u : View) → ((j ≡ other) × (spent_view ≡ u)) ⊎ ((j ≢ other) × (get_elem? (set s.views id (both_views v w)) j ≡ some u)) → IsRight key (get_or s.words 0 0) s.views u
      go j u (inl h) = subst (IsRight key (get_or s.words 0 0) s.views) h.1 spent
      go j u (inr h) = elim (at_set s.views id j (both_views v w) u h.1) [
        | inl k ↦ subst (IsRight key (get_or s.words 0 0) s.views) k.1 both
        | inr k ↦ (kept.each_view j u k.1, kept.found_marks j u k.1)
      ]

  -- ---- the blocks stay

  pub splits : 1 < length v.workers → Splits (λ (s : State Grid View). IsRuled key s.words s.homes s.views) id v (kept_view v) (new_view v)
  splits many s ruled at =
      let views' : List View = set s.views id (kept_view v) ++ new_view v ∷ [] in
      let same : (h : Fact → ℕ) → amount h views' ≡ amount h s.views
      = λ h. omega (arith, amount-snoc h (set s.views id (kept_view v)) (new_view v), amount-set h s.views id v (kept_view v) at) in
      let own = ruled.held.holders id v at in
      let kept-holder : IsHolder (kept_view v) = record { puts_begun = own.puts_begun; gaves_taken = own.gaves_taken } in
      let new-holder : IsHolder (new_view v) = record { puts_begun = λ t. omega arith; gaves_taken = λ x. omega arith } in
      record {
        kept = kept-split many s ruled.kept at;
        held = held-same key s.words s.words s.homes s.views views' ruled.held refl (λ x. refl) (λ x. same (took_of x)) (λ x. same (gave_of x)) (λ t. same (put_of t)) (λ t. same (end_of t))
            (λ j u there. elim (at_snoc (set s.views id (kept_view v)) (new_view v) u j there) [
              | inl before ↦ holders-after key s.words s.homes s.views ruled.kept ruled.held id v at (kept_view v) kept-holder j u before
              | inr e ↦ subst IsHolder e new-holder
            ]);
      }

  pub joins : (other : ℕ) (w : View) → v.workers ≢ [] → Joins (λ (s : State Grid View). IsRuled key s.words s.homes s.views) id v other w (both_views v w) spent_view
  joins other w alive s ruled at ne there = record {
    kept = kept-joined other w alive s ruled.kept at ne there;
    held = held-same key s.words s.words s.homes s.views views' ruled.held refl (λ x. refl) (λ x. same (took_of x)) (λ x. same (gave_of x)) (λ t. same (put_of t)) (λ t. same (end_of t))
        (λ j u here. go j u (at_set (set s.views id (both_views v w)) other j spent_view u here));
  }
    where
      views' : List View
      views' = set (set s.views id (both_views v w)) other spent_view

      same : (h : Fact → ℕ) → amount h (set (set s.views id (both_views v w)) other spent_view) ≡ amount h s.views
      same h = omega (arith, amount-set h (set s.views id (both_views v w)) other w spent_view there, amount-set h s.views id v (both_views v w) at, weigh-append h v.facts w.facts)

      x : IsHolder v
      x = ruled.held.holders id v at

      y : IsHolder w
      y = ruled.held.holders other w (sym (set_else s.views id other (both_views v w) ne) ∙ there)

      both : IsHolder (both_views v w)
      both = record {
        puts_begun = λ t. omega (arith, x.puts_begun t, y.puts_begun t, weigh-append (put_of t) v.facts w.facts, weigh-append (begin_of t) v.facts w.facts);
        gaves_taken = λ z. omega (arith, x.gaves_taken z, y.gaves_taken z, weigh-append (gave_of z) v.facts w.facts, weigh-append (took_of z) v.facts w.facts);
      }

      spent : IsHolder spent_view
      spent = record { puts_begun = λ t. omega arith; gaves_taken = λ z. omega arith }

      go : (j : ℕ) (u : View) → ((j ≡ other) × (spent_view ≡ u)) ⊎ ((j ≢ other) × (get_elem? (set s.views id (both_views v w)) j ≡ some u)) → IsHolder u
      go j u (inl h) = subst IsHolder h.1 spent
      go j u (inr h) = holders-after key s.words s.homes s.views ruled.kept ruled.held id v at (both_views v w) both j u h.1
