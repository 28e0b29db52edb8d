-- A seat gives back a block that it holds, as it was or with what its step leaves in it.
use Rattle.std.proofs.Common.{◌≡◌, ◌≢◌, ℕ, ◌+◌, ◌<◌, ◌≤◌, ◌⊎◌, inl, inr, max, Bool, true, cond, List, ◌∷◌, get_or, set, refl, sym, ap, ◌∙◌, subst, arith}
use Rattle.std.specs.Prelude.{◌==◌}
use Rattle.std.proofs.Math.ListN.{length-set}
use Rattle.std.proofs.lemmas.Bool.{cases_eq, eqb-true}
use Rattle.std.proofs.lemmas.List.{get_or-set_same, get_or-set_other}
use mathlib.Core.Option.{some}
use mathlib.Core.Option as maybe
use lib.ListN.{get_elem?}
use Rattle.atomic_table.proofs.Lists.{set_else, set_here}
use Rattle.residue_sums.specs.Grids.{Grid}
use Rattle.residue_sums.proofs.Sums.{sum_below-same}
use Rattle.block_store.specs.declared.key.BoardKey.{BoardKey}
use Rattle.block_store.specs.declared.view.Fact.{Fact}
use Rattle.block_store.specs.declared.view.Fact.TheVariants.{Gave, Put}
use Rattle.block_store.specs.declared.view.View.{View}
use Rattle.block_store.specs.Blocks.{access_of, block_count, is_writer, uses, writes_to, IsFound, IsLeft, IsValue}
use Rattle.block_store.specs.Holding.{version, turn_word, IsHeld}
use Rattle.block_store.specs.Keys.{step_count}
use Rattle.block_store.specs.Plays.{Holds, IsRunning}
use Rattle.block_store.specs.Rule.{IsKept}
use Rattle.block_store.specs.Sums.{same}
use Rattle.block_store.specs.Tallies.{weigh, begin_of, took_of, gave_of, put_of, end_of, tooks, gaves, puts, ends}
use Rattle.block_store.specs.Views.{learned}
use Rattle.block_store.proofs.Sums.{same-eq, same-ne, sum_below-one}
use Rattle.block_store.proofs.Learning.{after, more, still}
use Rattle.block_store.proofs.Versions.{writer-is, is-writer, writer-uses, cond-agree, cond-zero}
use Rattle.block_store.proofs.HeldViews.{version-same, holders-after, held_once, none_put, none_ended, some_step, finds}

module _ (key : BoardKey) (words : List ℕ) (homes : List (maybe.Option Grid)) (views : List View) (kept : IsKept key words views) (held : IsHeld key words homes views)
    (id : ℕ) (v : View) (at : get_elem? views id ≡ some v) (x : ℕ) (g : Grid) (lt : x < block_count key) (holds : Holds v x) where
  abbrev words' : List ℕ
  words' = set words (turn_word key x) 0

  -- ---- by a fact e, which says that the block was given or put

  module _ (e : Fact) (no_took : (y : ℕ) → took_of y e ≡ 0) (gave : (y : ℕ) → gave_of y e ≡ same x y)
      (own_puts : (u : ℕ) → weigh (put_of u) (e ∷ v.facts) ≤ weigh (begin_of u) (e ∷ v.facts))
      (others : (y : ℕ) → y ≢ x → version (after views id v e) key y ≡ version views key y) (now : IsValue key x (version (after views id v e) key x) g) where
    abbrev views' : List View
    views' = after views id v e

    tooks-same : (y : ℕ) → tooks views' y ≡ tooks views y
    tooks-same y = still views id v e at (took_of y) (no_took y)

    gaves-here : (y : ℕ) → y ≡ x → (gaves views' y ≡ gaves views y + 1) × (tooks views y ≡ gaves views y + 1)
    gaves-here y is = (
      omega (arith, more views id v e at (gave_of y), gave y, same-eq x y (sym is)),
      subst (λ i. tooks views i ≡ gaves views i + 1) (sym is) (held_once key words homes views kept held id v at x holds),
    )

    gaves-there : (y : ℕ) → y ≢ x → gaves views' y ≡ gaves views y
    gaves-there y ne = omega (arith, more views id v e at (gave_of y), gave y, same-ne x y (λ q. ne (sym q)))

    turn : (y : ℕ) → y < block_count key → (y ≡ x) ⊎ (y ≢ x) → get_or words' (turn_word key y) 0 + gaves views' y ≡ tooks views' y
    turn y below (inl is) =
        let w : get_or words' (turn_word key y) 0 ≡ 0 = ap (λ i. get_or words' (turn_word key i) 0) is ∙ get_or-set_same words (turn_word key x) 0 0 (omega (arith, held.long)) in
        omega (arith, tooks-same y, (gaves-here y is).0, (gaves-here y is).1)
    turn y below (inr ne) = omega (arith, tooks-same y, gaves-there y ne, held.turn y below, get_or-set_other words (turn_word key x) (turn_word key y) 0 0 (λ q. ne (omega arith)))

    one : (y : ℕ) → (y ≡ x) ⊎ (y ≢ x) → tooks views' y ≤ gaves views' y + 1
    one y (inl is) = omega (arith, tooks-same y, (gaves-here y is).0, (gaves-here y is).1)
    one y (inr ne) = omega (arith, tooks-same y, gaves-there y ne, held.one y)

    mine : (y : ℕ) → (y ≡ x) ⊎ (y ≢ x) → weigh (gave_of y) (e ∷ v.facts) ≤ weigh (took_of y) (e ∷ v.facts)
    mine y (inl is) = omega (arith, gave y, no_took y, same-eq x y (sym is), holds, ap (λ i. weigh (gave_of i) v.facts) is, ap (λ i. weigh (took_of i) v.facts) is)
    mine y (inr ne) = omega (arith, gave y, no_took y, same-ne x y (λ q. ne (sym q)), (held.holders id v at).gaves_taken y)

    home : (y : ℕ) → y < block_count key → tooks views' y ≡ gaves views' y → (y ≡ x) ⊎ (y ≢ x) → (h : Grid) × (get_elem? (set homes x (some g)) y ≡ some (some h)) × IsValue key y (version views' key y) h
    home y below z (inl is) = (
      g,
      ap (λ i. get_elem? (set homes x (some g)) i) is ∙ set_here homes x (some g) (omega (arith, held.many)),
      subst (λ i. IsValue key i (version views' key i) g) (sym is) now,
    )
    home y below z (inr ne) =
        let h = held.home y below (omega (arith, tooks-same y, gaves-there y ne)) in
        (h.0, set_else homes x y (some g) ne ∙ h.1, subst (λ n. IsValue key y n h.0) (sym (others y ne)) h.2)

    home-again : IsHeld key words' (set homes x (some g)) views'
    home-again = record {
      long = omega (arith, length-set words (turn_word key x) 0, held.long);
      many = length-set homes x (some g) ∙ held.many;
      turn = λ y below. turn y below (cases_eq y x);
      one = λ y. one y (cases_eq y x);
      home = λ y below z. home y below z (cases_eq y x);
      holders = holders-after key words homes views kept held id v at (learned e v) (record { puts_begun = own_puts; gaves_taken = λ y. mine y (cases_eq y x) });
    }

  module _ (t : ℕ) (runs : IsRunning v t) where
    -- ---- as it was

    pub held-gave : uses key t x ≡ true → IsFound key t x g → IsHeld key words' (set homes x (some g)) (after views id v (Gave x))
    held-gave touch is = home-again (Gave x) (λ y. refl) (λ y. refl) (λ u. omega (arith, (held.holders id v at).puts_begun u)) (λ y ne. stays y)
        (subst (λ n. IsValue key x n g) (sym (stays x ∙ finds key words homes views kept held id v at t runs x touch)) is)
      where
        stays : (y : ℕ) → version (after views id v (Gave x)) key y ≡ version views key y
        stays y = version-same key views (after views id v (Gave x)) (λ u. still views id v (Gave x) at (put_of u) refl) (λ u. still views id v (Gave x) at (end_of u) refl) y

    -- ---- with what the step leaves

    module _ (writes : ((access_of key t).write == x) ≡ true) where
      abbrev put_views : List View
      put_views = after views id v (Put t x)

      here : puts put_views t ≡ 1
      here = omega (arith, more views id v (Put t x) at (put_of t), same-eq t t refl, none_put key words homes views kept held id v at t runs)

      puts-other : (u : ℕ) → u ≢ t → puts put_views u ≡ puts views u
      puts-other u ne = omega (arith, more views id v (Put t x) at (put_of u), same-ne t u (λ q. ne (sym q)))

      ends-same : (u : ℕ) → ends put_views u ≡ ends views u
      ends-same u = still views id v (Put t x) at (end_of u) refl

      -- the version of another block stays, that of x rises by one
      stays-other : (y : ℕ) → y ≢ x → version put_views key y ≡ version views key y
      stays-other y ne = sum_below-same _ _ (step_count key + 1) (λ u q. term u (cases_eq u t))
        where
          term : (u : ℕ) → (u ≡ t) ⊎ (u ≢ t) → cond (is_writer key y u) (max (puts put_views u) (ends put_views u)) 0 ≡ cond (is_writer key y u) (max (puts views u) (ends views u)) 0
          term u (inl e) = cond-agree (is_writer key y u) _ _ (λ w. absurd (ne (sym (writer-is key y u w).1 ∙ (ap (λ i. (access_of key i).write) e ∙ eqb-true (access_of key t).write x writes))))
          term u (inr other) = cond-agree (is_writer key y u) _ _ (λ w. omega (arith, puts-other u other, ends-same u))

      rises : version put_views key x ≡ writes_to key x t + 1
      rises =
          let f : ℕ → ℕ = λ u. cond (is_writer key x u) (max (puts views u) (ends views u)) 0 in
          let h : ℕ → ℕ = λ u. cond (is_writer key x u) (max (puts put_views u) (ends put_views u)) 0 in
          let step = some_step key words homes views kept held id v at t runs in
          let no_end = none_ended key words homes views kept held id v at t runs in
          let before : f t ≡ 0 = cond-zero (is_writer key x t) _ (λ q. omega (arith, none_put key words homes views kept held id v at t runs, no_end)) in
          let w : is_writer key x t ≡ true = is-writer key x t step.0 writes in
          let now : h t ≡ 1 = ap (λ (c : Bool). cond c (max (puts put_views t) (ends put_views t)) 0) w ∙ (omega (arith, here, ends-same t, no_end)) in
          omega (
            arith,
            finds key words homes views kept held id v at t runs x (writer-uses key x t writes),
            sum_below-one f h t (step_count key + 1) (omega (arith, step)) (λ u ne. cond-agree (is_writer key x u) _ _ (λ q. omega (arith, puts-other u ne, ends-same u))),
          )

      own-puts : (u : ℕ) → (u ≡ t) ⊎ (u ≢ t) → weigh (put_of u) (Put t x ∷ v.facts) ≤ weigh (begin_of u) (Put t x ∷ v.facts)
      own-puts u (inl e) = omega (arith, same-eq t u (sym e), runs.begun, runs.unput, ap (λ i. weigh (put_of i) v.facts) e, ap (λ i. weigh (begin_of i) v.facts) e)
      own-puts u (inr ne) = omega (arith, same-ne t u (λ q. ne (sym q)), (held.holders id v at).puts_begun u)

      pub held-put : IsLeft key t x g → IsHeld key words' (set homes x (some g)) put_views
      held-put is = home-again (Put t x) (λ y. refl) (λ y. refl) (λ u. own-puts u (cases_eq u t)) stays-other (subst (λ n. IsValue key x n g) (sym rises) is)
