-- A seat begins a step that it has claimed: its start stamp keeps the rule.
use Rattle.std.proofs.Common.{◌≡◌, ◌≢◌, ℕ, ◌+◌, ◌<◌, ◌≤◌, ◌⊎◌, inl, inr, List, [], ◌∷◌, get_or, set, refl, sym, ap, subst, arith}
use Rattle.std.proofs.Math.ListN.{length-set}
use Rattle.std.proofs.lemmas.Bool.{cases_eq}
use Rattle.std.proofs.lemmas.List.{get_or-set_same, get_or-set_other}
use mathlib.Core.Option.{some}
use lib.ListN.{get_elem?}
use Rattle.block_store.specs.declared.key.BoardKey.{BoardKey}
use Rattle.block_store.specs.declared.view.Fact.TheVariants.{Began}
use Rattle.block_store.specs.declared.view.View.{View}
use Rattle.block_store.specs.Keys.{step_count, IsStep, edge}
use Rattle.block_store.specs.Sums.{below}
use Rattle.block_store.specs.Tallies.{weigh, claim_of, begin_of, end_of, stamp_of, start_of, finish_of, claims, begins, ends, notices, start, finish, drawn}
use Rattle.block_store.specs.Rule.{AreWords, AreStamps, IsView, IsKept}
use Rattle.block_store.specs.Views.{learned}
use Rattle.block_store.proofs.Sums.{same-eq, same-ne, when_same-eq, when_same-ne, below-more, sum_below-one, sum_below-tight}
use Rattle.block_store.proofs.Tallies.{amount-has, amount-zero}
use Rattle.block_store.proofs.Edges.{edge-steps}
use Rattle.block_store.proofs.Kept.{ends-le, marks-le, ends-split, notices-le, not_begun}
use Rattle.block_store.proofs.Learning.{start-zero, after, more, still, into-still, marked-still, claims-still, outcomes-still, kept-learned}

module _ (key : BoardKey) (words : List ℕ) (views : List View) (kept : IsKept key words views) (id : ℕ) (v : View)
    (at : get_elem? views id ≡ some v) (alive : v.workers ≢ []) (t n : ℕ) (mine : 0 < weigh (claim_of t) v.facts)
    (fresh : weigh (begin_of t) v.facts ≡ 0) (is : get_or words 0 0 ≡ n) where
  abbrev views' : List View
  views' = after views id v (Began t n)

  abbrev words' : List ℕ
  words' = set words 0 (n + 1)

  own : IsView key (get_or words 0 0) v
  own = kept.each_view id v at

  clock_now : get_or words' 0 0 ≡ n + 1
  clock_now = get_or-set_same words 0 (n + 1) 0 (omega (arith, kept.words_are.long))

  -- ---- nobody has begun t; t is a step, and each edge into it is noticed, so its first step has ended

  none : begins views t ≡ 0
  none = not_begun key words views kept id v at t mine fresh

  some_claim : 0 < claims views t
  some_claim = omega (arith, amount-has (claim_of t) views id v at)

  step : IsStep key t
  step = kept.claims_are.real t some_claim

  pred_ended : (s : ℕ) → 0 < edge key s t → 0 < ends views s
  pred_ended s g =
      let steps = edge-steps key s t g in
      let full : notices views s t ≡ edge key s t = sum_below-tight (λ y. notices views y t) (λ y. edge key y t) (step_count key + 1)
      (λ y q. kept.claims_are.noticed y t) (kept.claims_are.ready t some_claim) s (let b = steps.0.1 in omega arith) in
      omega (arith, notices-le key words views kept s t, marks-le key words views kept s t, ends-split key words views kept s)

  -- ---- the tallies after the start

  here : begins views' t ≡ 1
  here = omega (arith, more views id v (Began t n) at (begin_of t), same-eq t t refl, none)

  there : (u : ℕ) → u ≢ t → begins views' u ≡ begins views u
  there u ne = omega (arith, more views id v (Began t n) at (begin_of u), same-ne t u (λ h. ne (sym h)))

  ends_same : (u : ℕ) → ends views' u ≡ ends views u
  ends_same u = still views id v (Began t n) at (end_of u) refl

  finish_same : (u : ℕ) → finish views' u ≡ finish views u
  finish_same u = still views id v (Began t n) at (finish_of u) refl

  rises : drawn views' key ≡ drawn views key + 1
  rises = omega (
    arith,
    sum_below-one (λ u. begins views u + ends views u) (λ u. begins views' u + ends views' u) t (step_count key + 1) (omega (arith, step))
        (λ u ne. omega (arith, there u ne, ends_same u)),
    here,
    none,
    ends_same t,
  )

  start_here : start views' t ≡ n
  start_here = omega (arith, more views id v (Began t n) at (start_of t), when_same-eq t t n refl, amount-zero (begin_of t) (start_of t) (start-zero t) views none)

  start_there : (u : ℕ) → u ≢ t → start views' u ≡ start views u
  start_there u ne = omega (arith, more views id v (Began t n) at (start_of u), when_same-ne t u n (λ h. ne (sym h)))

  -- ---- the rule after it

  begun-words : AreWords key words' views'
  begun-words = record {
    long = omega (arith, length-set words 0 (n + 1), kept.words_are.long);
    word = λ u su. omega (
      arith,
      kept.words_are.word u su,
      into-still views id v (Began t n) at key u (λ s. refl),
      marked-still views id v (Began t n) at key u (λ s. refl),
      still views id v (Began t n) at (claim_of u) refl,
      get_or-set_other words 0 u (n + 1) 0 (λ h. omega (arith, su)),
    );
    clock = omega (arith, clock_now, kept.words_are.clock, rises);
  }

  begun-stamps : AreStamps key (get_or words' 0 0) views'
  begun-stamps = record {
    drawn_once = λ y. omega (arith, more views id v (Began t n) at (stamp_of y), kept.stamps_are.drawn_once y, below-more n y, ap (λ c. below c y) clock_now, ap (λ c. below c y) is);
    start_low = λ u. low u (cases_eq u t);
    finish_low = λ u z. omega (arith, kept.stamps_are.finish_low u (omega (arith, ends_same u)), finish_same u, clock_now);
    start_first = λ u. first u (cases_eq u t);
    edge_ended = λ s u. ended s u (cases_eq u t);
    edge_forward = λ s u. forward s u (cases_eq u t);
  }
    where
      low : (u : ℕ) → (u ≡ t) ⊎ (u ≢ t) → 0 < begins views' u → start views' u < get_or words' 0 0
      low u (inl e) z = omega (arith, ap (λ y. start views' y) e, start_here, clock_now)
      low u (inr ne) z = omega (arith, start_there u ne, kept.stamps_are.start_low u (omega (arith, there u ne)), clock_now)

      first : (u : ℕ) → (u ≡ t) ⊎ (u ≢ t) → 0 < ends views' u → start views' u < finish views' u
      first u (inl e) z = absurd (omega (arith, ends_same u, ap (λ y. ends views y) e, ends-le key words views kept t, none))
      first u (inr ne) z = omega (arith, start_there u ne, finish_same u, kept.stamps_are.start_first u (omega (arith, ends_same u)))

      ended : (s u : ℕ) → (u ≡ t) ⊎ (u ≢ t) → 0 < edge key s u → 0 < begins views' u → 0 < ends views' s
      ended s u (inl e) g z = omega (arith, ends_same s, pred_ended s (subst (λ y. 0 < edge key s y) e g))
      ended s u (inr ne) g z = omega (arith, ends_same s, kept.stamps_are.edge_ended s u g (omega (arith, there u ne)))

      forward : (s u : ℕ) → (u ≡ t) ⊎ (u ≢ t) → 0 < edge key s u → 0 < begins views' u → finish views' s < start views' u
      forward s u (inl e) g z = omega (arith, finish_same s, ap (λ y. start views' y) e, start_here, kept.stamps_are.finish_low s (pred_ended s (subst (λ y. 0 < edge key s y) e g)))
      forward s u (inr ne) g z = omega (arith, finish_same s, start_there u ne, kept.stamps_are.edge_forward s u g (omega (arith, there u ne)))

  own-begun : IsView key (get_or words' 0 0) (learned (Began t n) v)
  own-begun = record {
    begun = λ u. mine_begun u (cases_eq u t);
    ended = λ u. omega (arith, own.ended u);
    marked = λ s u. omega (arith, own.marked s u);
    noticed = λ s u. omega (arith, own.noticed s u);
    outcomes = outcomes-still views id v (Began t n) key (λ u m o e. cc) own.outcomes;
    loaded = omega (arith, own.loaded, clock_now);
    spent = λ e. absurd (alive e);
    knows = own.knows;
  }
    where
      mine_begun : (u : ℕ) → (u ≡ t) ⊎ (u ≢ t) → weigh (begin_of u) (Began t n ∷ v.facts) ≤ weigh (claim_of u) (Began t n ∷ v.facts)
      mine_begun u (inl e) = omega (arith, same-eq t u (sym e), ap (λ y. weigh (begin_of y) v.facts) e, ap (λ y. weigh (claim_of y) v.facts) e)
      mine_begun u (inr ne) = omega (arith, same-ne t u (λ h. ne (sym h)), own.begun u)

  pub begun : IsKept key words' views'
  begun = kept-learned key words words' views kept id v at (Began t n) begun-words
      (claims-still views id v (Began t n) at key (λ u. refl) (λ s u. refl) (λ s u. refl) (λ u. refl) kept.claims_are) begun-stamps
      (omega (arith, clock_now)) own-begun (λ u. omega (arith, marked-still views id v (Began t n) at key u (λ s. refl)))
