-- A seat ends a step that it has begun: its finish stamp keeps the rule.
use Rattle.std.proofs.Common.{◌≡◌, ◌≢◌, ℕ, ◌+◌, ◌<◌, ◌≤◌, ◌⊎◌, inl, inr, List, [], ◌∷◌, get_or, set, refl, sym, ap, ◌∙◌, arith}
use Rattle.std.proofs.Math.ListN.{length-set}
use Rattle.std.proofs.lemmas.Bool.{cases_eq}
use Rattle.std.proofs.lemmas.List.{get_or-set_same, get_or-set_other}
use mathlib.Core.Option.{some}
use lib.ListN.{get_elem?}
use Rattle.block_store.specs.declared.key.BoardKey.{BoardKey}
use Rattle.block_store.specs.declared.outcome.StepOutcome.{StepOutcome}
use Rattle.block_store.specs.declared.view.Fact.TheVariants.{Ended}
use Rattle.block_store.specs.declared.view.View.{View}
use Rattle.block_store.specs.Keys.{step_count, IsStep, IsOutcome, outcome_at, edge}
use Rattle.block_store.specs.Sums.{below}
use Rattle.block_store.specs.Tallies.{In, weigh, claim_of, begin_of, end_of, stamp_of, start_of, finish_of, begins, ends, start, finish, drawn}
use Rattle.block_store.specs.Rule.{AreWords, AreStamps, IsView, IsKept}
use Rattle.block_store.specs.Views.{learned}
use Rattle.block_store.proofs.Sums.{same-eq, same-ne, when_same-eq, when_same-ne, below-more, sum_below-one}
use Rattle.block_store.proofs.Tallies.{amount-has, amount-zero}
use Rattle.block_store.proofs.Kept.{begins-le, not_ended}
use Rattle.block_store.proofs.Learning.{finish-zero, after, more, still, into-still, marked-still, claims-still, kept-learned}

module _ (key : BoardKey) (words : List ℕ) (views : List View) (kept : IsKept key words views) (id : ℕ) (v : View)
    (at : get_elem? views id ≡ some v) (alive : v.workers ≢ []) (t n : ℕ) (o : StepOutcome) (mine : 0 < weigh (begin_of t) v.facts)
    (fresh : weigh (end_of t) v.facts ≡ 0) (right : IsOutcome key t o) (is : get_or words 0 0 ≡ n) where
  abbrev views' : List View
  views' = after views id v (Ended t n o)

  abbrev words' : List ℕ
  words' = set words 0 (n + 1)

  own : IsView key (get_or words 0 0) v
  own = kept.each_view id v at

  clock_now : get_or words' 0 0 ≡ n + 1
  clock_now = get_or-set_same words 0 (n + 1) 0 (omega (arith, kept.words_are.long))

  -- ---- nobody has ended t, which is begun and a step

  none : ends views t ≡ 0
  none = not_ended key words views kept id v at t mine fresh

  some_begin : 0 < begins views t
  some_begin = omega (arith, amount-has (begin_of t) views id v at)

  step : IsStep key t
  step = kept.claims_are.real t (omega (arith, some_begin, begins-le key words views kept t))

  -- ---- the tallies after the finish

  here : ends views' t ≡ 1
  here = omega (arith, more views id v (Ended t n o) at (end_of t), same-eq t t refl, none)

  there : (u : ℕ) → u ≢ t → ends views' u ≡ ends views u
  there u ne = omega (arith, more views id v (Ended t n o) at (end_of u), same-ne t u (λ h. ne (sym h)))

  begins_same : (u : ℕ) → begins views' u ≡ begins views u
  begins_same u = still views id v (Ended t n o) at (begin_of u) refl

  start_same : (u : ℕ) → start views' u ≡ start views u
  start_same u = still views id v (Ended t n o) at (start_of u) refl

  rises : drawn views' key ≡ drawn views key + 1
  rises = omega (
    arith,
    sum_below-one (λ u. begins views u + ends views u) (λ u. begins views' u + ends views' u) t (step_count key + 1) (omega (arith, step))
        (λ u ne. omega (arith, there u ne, begins_same u)),
    here,
    none,
    begins_same t,
  )

  finish_here : finish views' t ≡ n
  finish_here = omega (arith, more views id v (Ended t n o) at (finish_of t), when_same-eq t t n refl, amount-zero (end_of t) (finish_of t) (finish-zero t) views none)

  finish_there : (u : ℕ) → u ≢ t → finish views' u ≡ finish views u
  finish_there u ne = omega (arith, more views id v (Ended t n o) at (finish_of u), when_same-ne t u n (λ h. ne (sym h)))

  -- ---- the rule after it

  ended-words : AreWords key words' views'
  ended-words = record {
    long = omega (arith, length-set words 0 (n + 1), kept.words_are.long);
    word = λ u su. omega (
      arith,
      kept.words_are.word u su,
      into-still views id v (Ended t n o) at key u (λ s. refl),
      marked-still views id v (Ended t n o) at key u (λ s. refl),
      still views id v (Ended t n o) at (claim_of u) refl,
      get_or-set_other words 0 u (n + 1) 0 (λ h. omega (arith, su)),
    );
    clock = omega (arith, clock_now, kept.words_are.clock, rises);
  }

  ended-stamps : AreStamps key (get_or words' 0 0) views'
  ended-stamps = record {
    drawn_once = λ y. omega (arith, more views id v (Ended t n o) at (stamp_of y), kept.stamps_are.drawn_once y, below-more n y, ap (λ c. below c y) clock_now, ap (λ c. below c y) is);
    start_low = λ u z. omega (arith, kept.stamps_are.start_low u (omega (arith, begins_same u)), start_same u, clock_now);
    finish_low = λ u. low u (cases_eq u t);
    start_first = λ u. first u (cases_eq u t);
    edge_ended = λ s u g z. omega (arith, kept.stamps_are.edge_ended s u g (omega (arith, begins_same u)), more views id v (Ended t n o) at (end_of s));
    edge_forward = λ s u. forward s u (cases_eq s t);
  }
    where
      low : (u : ℕ) → (u ≡ t) ⊎ (u ≢ t) → 0 < ends views' u → finish views' u < get_or words' 0 0
      low u (inl e) z = omega (arith, ap (λ y. finish views' y) e, finish_here, clock_now)
      low u (inr ne) z = omega (arith, finish_there u ne, kept.stamps_are.finish_low u (omega (arith, there u ne)), clock_now)

      first : (u : ℕ) → (u ≡ t) ⊎ (u ≢ t) → 0 < ends views' u → start views' u < finish views' u
      first u (inl e) z = omega (arith, ap (λ y. finish views' y) e, finish_here, start_same u, ap (λ y. start views y) e, kept.stamps_are.start_low t some_begin)
      first u (inr ne) z = omega (arith, finish_there u ne, start_same u, kept.stamps_are.start_first u (omega (arith, there u ne)))

      forward : (s u : ℕ) → (s ≡ t) ⊎ (s ≢ t) → 0 < edge key s u → 0 < begins views' u → finish views' s < start views' u
      forward s u (inl e) g z = absurd (omega (arith, none, ap (λ y. ends views y) e, kept.stamps_are.edge_ended s u g (omega (arith, begins_same u))))
      forward s u (inr ne) g z = omega (arith, finish_there s ne, start_same u, kept.stamps_are.edge_forward s u g (omega (arith, begins_same u)))

  own-ended : IsView key (get_or words' 0 0) (learned (Ended t n o) v)
  own-ended = record {
    begun = λ u. omega (arith, own.begun u);
    ended = λ u. mine_ended u (cases_eq u t);
    marked = λ s u. omega (arith, own.marked s u);
    noticed = λ s u. omega (arith, own.noticed s u);
    outcomes = outs;
    loaded = omega (arith, own.loaded, clock_now);
    spent = λ e. absurd (alive e);
    knows = own.knows;
  }
    where
      mine_ended : (u : ℕ) → (u ≡ t) ⊎ (u ≢ t) → weigh (end_of u) (Ended t n o ∷ v.facts) ≤ weigh (begin_of u) (Ended t n o ∷ v.facts)
      mine_ended u (inl e) = omega (arith, same-eq t u (sym e), ap (λ y. weigh (begin_of y) v.facts) e, ap (λ y. weigh (end_of y) v.facts) e)
      mine_ended u (inr ne) = omega (arith, same-ne t u (λ h. ne (sym h)), own.ended u)

      outs : (u m : ℕ) (q : StepOutcome) → In (Ended u m q) (Ended t n o ∷ v.facts) → IsOutcome key u q
      outs u m q (inl e) = let a : t ≡ u = cc in let b : o ≡ q = cc in λ results replay. sym b ∙ (right results replay ∙ ap (outcome_at results) a)
      outs u m q (inr h) = own.outcomes u m q h

  pub ended : IsKept key words' views'
  ended = kept-learned key words words' views kept id v at (Ended t n o) ended-words
      (claims-still views id v (Ended t n o) at key (λ u. refl) (λ s u. refl) (λ s u. refl) (λ u. refl) kept.claims_are) ended-stamps
      (omega (arith, clock_now)) own-ended (λ u. omega (arith, marked-still views id v (Ended t n o) at key u (λ s. refl)))
