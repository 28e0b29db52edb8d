-- A seat takes a block for a step that it runs: the block comes as the step finds it.
use Rattle.std.proofs.Common.{◌≡◌, ◌≢◌, ℕ, ◌+◌, ◌<◌, ◌≤◌, ◌⊎◌, inl, inr, true, List, get_or, set, refl, sym, ap, ◌∙◌, subst, arith}
use Rattle.std.proofs.Math.ListN.{length-set}
use Rattle.std.proofs.lemmas.Bool.{cases_eq}
use Rattle.std.proofs.lemmas.List.{get_or-set_same, get_or-set_other}
use mathlib.Core.Option.{none, some}
use mathlib.Core.Option as maybe
use lib.ListN.{get_elem?}
use Rattle.atomic_table.proofs.Lists.{set_else}
use Rattle.residue_sums.specs.Grids.{Grid}
use Rattle.block_store.specs.declared.key.BoardKey.{BoardKey}
use Rattle.block_store.specs.declared.view.Fact.TheVariants.{Took}
use Rattle.block_store.specs.declared.view.View.{View}
use Rattle.block_store.specs.Blocks.{block_count, uses, IsFound, IsValue}
use Rattle.block_store.specs.Holding.{version, turn_word, IsHeld}
use Rattle.block_store.specs.Plays.{IsRunning}
use Rattle.block_store.specs.Rule.{IsKept}
use Rattle.block_store.specs.Tallies.{took_of, gave_of, put_of, end_of, tooks, gaves}
use Rattle.block_store.specs.Views.{learned}
use Rattle.block_store.proofs.Sums.{same-eq, same-ne}
use Rattle.block_store.proofs.Learning.{after, more, still}
use Rattle.block_store.proofs.HeldViews.{version-same, holders-after, finds}

module _ (key : BoardKey) (words : List ℕ) (homes : List (maybe.Option Grid)) (views : List View) (kept : IsKept key words views) (held : IsHeld key words homes views)
    (id : ℕ) (v : View) (at : get_elem? views id ≡ some v) (t x : ℕ) (lt : x < block_count key) (free : get_or words (turn_word key x) 0 ≡ 0)
    (runs : IsRunning v t) (touch : uses key t x ≡ true) where
  abbrev views' : List View
  views' = after views id v (Took x)

  abbrev words' : List ℕ
  words' = set words (turn_word key x) 1

  -- no seat holds the block
  even : tooks views x ≡ gaves views x
  even = omega (arith, held.turn x lt)

  pub at_home : (g : Grid) × (get_elem? homes x ≡ some (some g)) × IsFound key t x g
  at_home = let h = held.home x lt even in (h.0, h.1, subst (λ n. IsValue key x n h.0) (finds key words homes views kept held id v at t runs x touch) h.2)

  gaves-same : (y : ℕ) → gaves views' y ≡ gaves views y
  gaves-same y = still views id v (Took x) at (gave_of y) refl

  tooks-here : (y : ℕ) → y ≡ x → (tooks views' y ≡ tooks views y + 1) × (tooks views y ≡ gaves views y)
  tooks-here y e = (omega (arith, more views id v (Took x) at (took_of y), same-eq x y (sym e)), subst (λ i. tooks views i ≡ gaves views i) (sym e) even)

  tooks-there : (y : ℕ) → y ≢ x → tooks views' y ≡ tooks views y
  tooks-there y ne = omega (arith, more views id v (Took x) at (took_of y), same-ne x y (λ q. ne (sym q)))

  turn : (y : ℕ) → y < block_count key → (y ≡ x) ⊎ (y ≢ x) → get_or words' (turn_word key y) 0 + gaves views' y ≡ tooks views' y
  turn y below (inl e) =
      let w : get_or words' (turn_word key y) 0 ≡ 1 = ap (λ i. get_or words' (turn_word key i) 0) e ∙ get_or-set_same words (turn_word key x) 1 0 (omega (arith, held.long)) in
      omega (arith, gaves-same y, (tooks-here y e).0, (tooks-here y e).1)
  turn y below (inr ne) = omega (arith, gaves-same y, tooks-there y ne, held.turn y below, get_or-set_other words (turn_word key x) (turn_word key y) 1 0 (λ q. ne (omega arith)))

  one : (y : ℕ) → (y ≡ x) ⊎ (y ≢ x) → tooks views' y ≤ gaves views' y + 1
  one y (inl e) = omega (arith, gaves-same y, (tooks-here y e).0, (tooks-here y e).1)
  one y (inr ne) = omega (arith, gaves-same y, tooks-there y ne, held.one y)

  home : (y : ℕ) → y < block_count key → tooks views' y ≡ gaves views' y → (y ≡ x) ⊎ (y ≢ x) → (g : Grid) × (get_elem? (set homes x none) y ≡ some (some g)) × IsValue key y (version views' key y) g
  home y below z (inl e) = absurd (omega (arith, gaves-same y, (tooks-here y e).0, (tooks-here y e).1))
  home y below z (inr ne) =
      let h = held.home y below (omega (arith, gaves-same y, tooks-there y ne)) in (
        h.0,
        set_else homes x y none ne ∙ h.1,
        subst (λ n. IsValue key y n h.0) (sym (version-same key views views' (λ u. still views id v (Took x) at (put_of u) refl) (λ u. still views id v (Took x) at (end_of u) refl) y)) h.2,
      )

  pub held-taken : IsHeld key words' (set homes x none) views'
  held-taken = let own = held.holders id v at in record {
    long = omega (arith, length-set words (turn_word key x) 1, held.long);
    many = length-set homes x none ∙ held.many;
    turn = λ y below. turn y below (cases_eq y x);
    one = λ y. one y (cases_eq y x);
    home = λ y below z. home y below z (cases_eq y x);
    holders = holders-after key words homes views kept held id v at (learned (Took x) v)
        (record { puts_begun = λ u. omega (arith, own.puts_begun u); gaves_taken = λ y. omega (arith, own.gaves_taken y) });
  }
