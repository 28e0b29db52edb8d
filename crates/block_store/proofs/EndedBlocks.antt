-- A step ends: the blocks stay, since it put its block before, or leaves it as it was.
use Rattle.std.proofs.Common.{◌≡◌, ◌≢◌, ℕ, ◌+◌, ◌⊎◌, inl, inr, max, Bool, true, false, cond, List, length, get_or, refl, sym, ap, ◌∙◌, subst, arith}
use Rattle.std.proofs.lemmas.Bool.{cases_Bool, cases_eq, eq-eqb}
use mathlib.Core.Option.{some}
use mathlib.Core.Option as maybe
use lib.ListN.{get_elem?}
use Rattle.residue_sums.specs.Grids.{Grid}
use Rattle.residue_sums.proofs.Sums.{sum_below-same}
use Rattle.block_store.specs.declared.key.BoardKey.{BoardKey}
use Rattle.block_store.specs.declared.outcome.StepOutcome.{StepOutcome}
use Rattle.block_store.specs.declared.view.Fact.TheVariants.{Ended}
use Rattle.block_store.specs.declared.view.View.{View}
use Rattle.block_store.specs.Blocks.{access_of, is_writer, writes_to, IsValue}
use Rattle.block_store.specs.Holding.{version, turn_word, IsHeld}
use Rattle.block_store.specs.Keys.{step_count, IsOutcome, is_bad}
use Rattle.block_store.specs.Plays.{HasBegun, HasPut, IsRunning, NotEnded}
use Rattle.block_store.specs.Rule.{IsKept}
use Rattle.block_store.specs.Tallies.{weigh, end_of, took_of, gave_of, put_of, ends, puts}
use Rattle.block_store.specs.Views.{learned}
use Rattle.block_store.proofs.Sums.{same-eq, same-ne, sum_below-one}
use Rattle.block_store.proofs.Tallies.{amount-has}
use Rattle.block_store.proofs.Kept.{begins-le, not_ended}
use Rattle.block_store.proofs.Learning.{after, more, still}
use Rattle.block_store.proofs.Versions.{bad-keeps, cond-agree, cond-zero, puts-le, writer-is, writer-uses}
use Rattle.block_store.proofs.HeldViews.{holders-after, finds, none_put, some_step}

module _ (key : BoardKey) (words : List ℕ) (homes : List (maybe.Option Grid)) (views : List View) (kept : IsKept key words views) (held : IsHeld key words homes views)
    (id : ℕ) (v : View) (at : get_elem? views id ≡ some v) (t n : ℕ) (o : StepOutcome) (mine : HasBegun v t) (fresh : NotEnded v t) (right : IsOutcome key t o)
    (done : (is_bad o ≡ true) ⊎ HasPut v t) where
  abbrev views' : List View
  views' = after views id v (Ended t n o)

  none : ends views t ≡ 0
  none = not_ended key words views kept id v at t mine fresh

  here : ends views' t ≡ 1
  here = omega (arith, more views id v (Ended t n o) at (end_of t), same-eq t t refl, none)

  ends-other : (u : ℕ) → u ≢ t → ends views' u ≡ ends views u
  ends-other u ne = omega (arith, more views id v (Ended t n o) at (end_of u), same-ne t u (λ h. ne (sym h)))

  puts-same : (u : ℕ) → puts views' u ≡ puts views u
  puts-same u = still views id v (Ended t n o) at (put_of u) refl

  term : (x u : ℕ) → u ≢ t → cond (is_writer key x u) (max (puts views' u) (ends views' u)) 0 ≡ cond (is_writer key x u) (max (puts views u) (ends views u)) 0
  term x u ne = cond-agree (is_writer key x u) _ _ (λ w. omega (arith, puts-same u, ends-other u ne))

  -- a version stays where the term of t does
  stays : (x : ℕ) → cond (is_writer key x t) (max (puts views' t) (ends views' t)) 0 ≡ cond (is_writer key x t) (max (puts views t) (ends views t)) 0 → version views' key x ≡ version views key x
  stays x e = sum_below-same _ _ (step_count key + 1) (λ u q. go u (cases_eq u t))
    where
      go : (u : ℕ) → (u ≡ t) ⊎ (u ≢ t) → cond (is_writer key x u) (max (puts views' u) (ends views' u)) 0 ≡ cond (is_writer key x u) (max (puts views u) (ends views u)) 0
      go u (inl h) = subst (λ y. cond (is_writer key x y) (max (puts views' y) (ends views' y)) 0 ≡ cond (is_writer key x y) (max (puts views y) (ends views y)) 0) (sym h) e
      go u (inr ne) = term x u ne

  -- where t put its block, the version was counted then
  put-stays : (x : ℕ) → HasPut v t → version views' key x ≡ version views key x
  put-stays x put = stays x (cond-agree (is_writer key x t) _ _ (λ w.
      omega (arith, puts-same t, here, none, amount-has (put_of t) views id v at, puts-le key words views kept held.holders t, begins-le key words views kept t, kept.claims_are.once t)))

  -- where it didn't, it failed or was skipped
  unput-bad : weigh (put_of t) v.facts ≡ 0 → is_bad o ≡ true
  unput-bad z = elim done [ inl b ↦ b | inr put ↦ absurd (omega arith) ]

  value-stays : (x : ℕ) (g : Grid) → IsValue key x (version views key x) g → IsValue key x (version views' key x) g
  value-stays x g is = go (cases_eq (weigh (put_of t) v.facts) 0) (cases_Bool (is_writer key x t))
    where
      go : (weigh (put_of t) v.facts ≡ 0) ⊎ (weigh (put_of t) v.facts ≢ 0) → (is_writer key x t ≡ true) ⊎ (is_writer key x t ≡ false) → IsValue key x (version views' key x) g
      go (inr nz) w = subst (λ k. IsValue key x k g) (sym (put-stays x (omega arith))) is
      go (inl z) (inr no_write) =
          subst (λ k. IsValue key x k g) (sym (stays x (cond-agree (is_writer key x t) _ _ (λ w. absurd (let e : false ≡ true = sym no_write ∙ w in cc))))) is
      go (inl z) (inl w) =
          let wr = writer-is key x t w in
          let runs : IsRunning v t = record { begun = mine; unended = fresh; unput = z } in
          let found : version views key x ≡ writes_to key x t = finds key words homes views kept held id v at t runs x (writer-uses key x t (eq-eqb (access_of key t).write x wr.1)) in
          let step = some_step key words homes views kept held id v at t runs in
          let unput = none_put key words homes views kept held id v at t runs in
          let f : ℕ → ℕ = λ u. cond (is_writer key x u) (max (puts views u) (ends views u)) 0 in
          let h : ℕ → ℕ = λ u. cond (is_writer key x u) (max (puts views' u) (ends views' u)) 0 in
          let before : f t ≡ 0 = cond-zero (is_writer key x t) _ (λ q. omega (arith, none, unput)) in
          let now : h t ≡ 1 = ap (λ (b : Bool). cond b (max (puts views' t) (ends views' t)) 0) w ∙ (omega (arith, here, puts-same t, unput)) in
          let rises : version views' key x ≡ writes_to key x t + 1 = omega (arith, found, sum_below-one f h t (step_count key + 1) (omega (arith, step)) (λ u ne. term x u ne)) in
          subst (λ k. IsValue key x k g) (sym rises) (bad-keeps key t o x g step right (unput-bad z) wr.1 (subst (λ k. IsValue key x k g) found is))

  pub held-ended : (words' : List ℕ) → length words' ≡ length words → ((x : ℕ) → get_or words' (turn_word key x) 0 ≡ get_or words (turn_word key x) 0) → IsHeld key words' homes views'
  held-ended words' long turns = let own = held.holders id v at in record {
    long = omega (arith, long, held.long);
    many = held.many;
    turn = λ x lt. omega (arith, held.turn x lt, turns x, still views id v (Ended t n o) at (took_of x) refl, still views id v (Ended t n o) at (gave_of x) refl);
    one = λ x. omega (arith, held.one x, still views id v (Ended t n o) at (took_of x) refl, still views id v (Ended t n o) at (gave_of x) refl);
    home = λ x lt z.
        let h = held.home x lt (omega (arith, still views id v (Ended t n o) at (took_of x) refl, still views id v (Ended t n o) at (gave_of x) refl)) in
        (h.0, h.1, value-stays x h.0 h.2);
    holders = holders-after key words homes views kept held id v at (learned (Ended t n o) v)
        (record { puts_begun = λ u. omega (arith, own.puts_begun u); gaves_taken = λ x. omega (arith, own.gaves_taken x) });
  }
