-- What is in the slots once each step has ended.
use Rattle.std.proofs.Common.{◌≡◌, ℕ, ◌+◌, ◌*◌, ◌<◌, List, get_or, refl, sym, ◌∙◌, subst, arith}
use mathlib.Core.Option.{some}
use lib.ListN.{get_elem?}
use Rattle.atomic_table.specs.Table.{State, Final, Seen}
use Rattle.residue_sums.specs.Grids.{Grid}
use Rattle.residue_sums.proofs.Sums.{sum_below-same}
use Rattle.block_store.specs.declared.key.BoardKey.{BoardKey}
use Rattle.block_store.specs.declared.view.View.{View}
use Rattle.block_store.specs.Blocks.{block_count, is_writer, writes_to, IsValue}
use Rattle.block_store.specs.Holding.{version, IsHeld, IsRuled, HaveLast}
use Rattle.block_store.specs.Keys.{step_count, IsStep}
use Rattle.block_store.specs.Plays.{StandsForAll, IsWhole, NotHolds}
use Rattle.block_store.specs.Rule.{IsKept}
use Rattle.block_store.specs.Tallies.{end_of, took_of, gave_of, ends}
use Rattle.block_store.proofs.Kept.{begins-le, ends-le, drawn-bound}
use Rattle.block_store.proofs.Versions.{puts-le, cond-agree, writer-is}
use Rattle.block_store.proofs.Whole.{whole, alone}
use Rattle.block_store.proofs.Ending.{all-done}

module _ (key : BoardKey) (id : ℕ) (v : View) (all : StandsForAll key v) (loaded : v.clock ≡ 2 * step_count key) (free : (x : ℕ) → NotHolds v x)
    (words : List ℕ) (slots : List Grid) (final : Final (Seen (λ (s : State Grid View). IsRuled key s.words s.homes s.views) id v) words slots) where
  views : List View
  views = final.0.views

  kept : IsKept key final.0.words final.0.views
  kept = final.1.0.kept

  held : IsHeld key final.0.words final.0.homes final.0.views
  held = final.1.0.held

  at : get_elem? final.0.views id ≡ some v
  at = final.1.1

  clock : get_or final.0.words 0 0 ≡ 2 * step_count key
  clock = omega (arith, (kept.each_view id v at).loaded, kept.words_are.clock, drawn-bound key final.0.words final.0.views kept, loaded)

  is_whole : IsWhole key (2 * step_count key) v
  is_whole = subst (λ c. IsWhole key c v) clock (whole key final.0.words final.0.views kept id v at all v refl (kept.each_view id v at))

  ended : (t : ℕ) → IsStep key t → ends final.0.views t ≡ 1
  ended t step =
      let d = (all-done key (2 * step_count key) v is_whole refl t step).1 in
      omega (arith, alone key final.0.words final.0.views kept id v at all (end_of t), kept.claims_are.once t, begins-le key final.0.words final.0.views kept t, ends-le key final.0.words final.0.views kept t)

  versions : (x : ℕ) → version final.0.views key x ≡ writes_to key x (step_count key + 1)
  versions x = sum_below-same _ _ (step_count key + 1) (λ t q. cond-agree (is_writer key x t) _ _ (λ w.
      let step : IsStep key t = ((writer-is key x t w).0, omega arith) in
      omega (arith, ended t step, puts-le key final.0.words final.0.views kept held.holders t, begins-le key final.0.words final.0.views kept t, kept.claims_are.once t)))

  each : (x : ℕ) → x < block_count key → (g : Grid) × (get_elem? slots x ≡ some g) × IsValue key x (writes_to key x (step_count key + 1)) g
  each x lt =
      let h = held.home x lt (omega (arith, alone key final.0.words final.0.views kept id v at all (took_of x), alone key final.0.words final.0.views kept id v at all (gave_of x), free x)) in
      (h.0, final.4 x h.0 h.1, subst (λ n. IsValue key x n h.0) (versions x) h.2)

  pub last : HaveLast key slots
  last = record { many = sym final.3 ∙ held.many; each = each }
