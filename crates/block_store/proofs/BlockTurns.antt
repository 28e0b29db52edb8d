-- The exchanges on the words of the blocks' turns are allowed.
use Rattle.std.proofs.Common.{◌≡◌, ◌≢◌, ℕ, ◌<◌, inl, inr, eqb, true, [], ◌∷◌, get_or, set, refl, sym, ap, subst}
use Rattle.std.specs.Prelude.{◌==◌}
use Rattle.std.proofs.lemmas.List.{set-get_or}
use mathlib.Core.Option.{none, some}
use lib.ListN.{get_elem?}
use prog.Atomic.{either}
use Rattle.atomic_table.specs.Table.{State, Me, Allows, Act, keeps, takes, gives, Valid, homes_after, carried_after, rest, put_back}
use Rattle.atomic_table.proofs.Lists.{exchanged}
use Rattle.residue_sums.specs.Grids.{Grid}
use Rattle.block_store.specs.declared.key.BoardKey.{BoardKey}
use Rattle.block_store.specs.declared.view.Fact.TheVariants.{Took, Away, Gave, Put}
use Rattle.block_store.specs.declared.view.View.{View}
use Rattle.block_store.specs.Blocks.{access_of, block_count, uses, IsFound, IsLeft}
use Rattle.block_store.specs.Holding.{turn_word, IsRuled}
use Rattle.block_store.specs.Plays.{HasTaken, Holds, IsRunning}
use Rattle.block_store.specs.Views.{learned}
use Rattle.block_store.proofs.BlockFacts.{kept-block, kept-turned, took-block, away-block, gave-block, put-block}
use Rattle.block_store.proofs.HeldViews.{held-still}
use Rattle.block_store.proofs.TakeMoves.{at_home, held-taken}
use Rattle.block_store.proofs.GiveMoves.{held-gave, held-put}

module _ (key : BoardKey) (slots id : ℕ) (me : Me Grid View) (alive : me.0.workers ≢ []) (t x : ℕ) (lt : x < block_count key) (runs : IsRunning me.0 t) where
  -- ---- a block is taken

  module _ (touch : uses key t x ≡ true) (s : State Grid View) (ruled : IsRuled key s.words s.homes s.views) (at : get_elem? s.views id ≡ some me.0) where
    n : ℕ
    n = get_or s.words (turn_word key x) 0

    -- a view and an act that keep the rule, where y stands in the word, and are what the exchange tells
    abbrev Goes : ℕ → Type 0
    Goes y = (w : View) × (a : Act Grid) × Valid s.homes me.1 a × IsRuled key (set s.words (turn_word key x) y) (homes_after s.homes me.1 a) (set s.views id w)
        × HasTaken key t x (turn_word key x) (get_or s.words (turn_word key x) 0) me (w, carried_after me.1 a)

    comes : get_or s.words (turn_word key x) 0 ≡ 0 → Goes 1
    comes e =
        let h = at_home key s.words s.homes s.views ruled.kept ruled.held id me.0 at t x lt e runs touch in
        let w : View = learned (Took x) me.0 in
        let after : IsRuled key (set s.words (turn_word key x) 1) (set s.homes x none) (set s.views id w) = record {
          kept = kept-turned key s.words (set s.views id w) x 1 (kept-block key s.words s.views ruled.kept id me.0 at alive (Took x) (took-block x));
          held = held-taken key s.words s.homes s.views ruled.kept ruled.held id me.0 at t x lt e runs touch;
        } in
        (w, takes x h.0, h.1, after, inl (e, refl, (h.0, refl, h.2)))

    stays : get_or s.words (turn_word key x) 0 ≢ 0 → Goes (get_or s.words (turn_word key x) 0)
    stays ne =
        let w : View = learned (Away x) me.0 in
        let after : IsRuled key s.words s.homes (set s.views id w) = record {
          kept = kept-block key s.words s.views ruled.kept id me.0 at alive (Away x) (away-block x);
          held = held-still key s.words s.homes s.views ruled.kept ruled.held id me.0 at s.words (Away x) refl (λ y. refl) (λ y. refl) (λ y. refl) (λ u. refl) (λ u. refl);
        } in
        (w, keeps, tt, subst (λ ws. IsRuled key ws s.homes (set s.views id w)) (sym (set-get_or s.words (turn_word key x) 0)) after, inr (ne, refl, refl, refl))

  pub takes_allowed : uses key t x ≡ true → Allows (λ s. IsRuled key s.words s.homes s.views) slots id me (turn_word key x) (λ n. either (eqb n 0) 1 n) (λ n m. HasTaken key t x (turn_word key x) n me m)
  takes_allowed touch s ruled len at fits = exchanged (get_or s.words (turn_word key x) 0) 0 1 (Goes touch s ruled at) (λ e. comes touch s ruled at e) (λ ne. stays touch s ruled at ne)

  -- ---- the block that was taken last goes home

  module _ (g : Grid) (top : me.1 ≡ (x, g) ∷ rest me.1) (holds : Holds me.0 x) where
    pub gives_allowed : uses key t x ≡ true → IsFound key t x g
        → Allows (λ s. IsRuled key s.words s.homes s.views) slots id me (turn_word key x) (λ _. 0) (λ n m. (m.0 ≡ learned (Gave x) me.0) × (m.1 ≡ rest me.1))
    gives_allowed touch is s ruled len at fits =
        let w : View = learned (Gave x) me.0 in
        let after : IsRuled key (set s.words (turn_word key x) 0) (set s.homes x (some g)) (set s.views id w) = record {
          kept = kept-turned key s.words (set s.views id w) x 0 (kept-block key s.words s.views ruled.kept id me.0 at alive (Gave x) (gave-block x));
          held = held-gave key s.words s.homes s.views ruled.kept ruled.held id me.0 at x g lt holds t runs touch is;
        } in
        let back : homes_after s.homes me.1 gives ≡ set s.homes x (some g) = ap (put_back s.homes) top in
        (w, gives, tt, subst (λ hs. IsRuled key (set s.words (turn_word key x) 0) hs (set s.views id w)) (sym back) after, (refl, refl))

    pub puts_allowed : ((access_of key t).write == x) ≡ true → IsLeft key t x g
        → Allows (λ s. IsRuled key s.words s.homes s.views) slots id me (turn_word key x) (λ _. 0) (λ n m. (m.0 ≡ learned (Put t x) me.0) × (m.1 ≡ rest me.1))
    puts_allowed writes is s ruled len at fits =
        let w : View = learned (Put t x) me.0 in
        let after : IsRuled key (set s.words (turn_word key x) 0) (set s.homes x (some g)) (set s.views id w) = record {
          kept = kept-turned key s.words (set s.views id w) x 0 (kept-block key s.words s.views ruled.kept id me.0 at alive (Put t x) (put-block t x));
          held = held-put key s.words s.homes s.views ruled.kept ruled.held id me.0 at x g lt holds t runs writes is;
        } in
        let back : homes_after s.homes me.1 gives ≡ set s.homes x (some g) = ap (put_back s.homes) top in
        (w, gives, tt, subst (λ hs. IsRuled key (set s.words (turn_word key x) 0) hs (set s.views id w)) (sym back) after, (refl, refl))
