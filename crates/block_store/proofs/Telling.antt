-- Loads of the clock and of a step's word are allowed, and what they tell.
use Rattle.std.proofs.Common.{◌≡◌, ◌≢◌, ℕ, ◌+◌, ◌*◌, ◌≤◌, List, [], get_or, set, refl, sym, subst, arith}
use Rattle.std.proofs.lemmas.List.{set-get_or}
use mathlib.Core.Option.{some}
use lib.ListN.{get_elem?}
use Rattle.residue_sums.specs.Grids.{Grid}
use Rattle.block_store.specs.Holding.{IsRuled}
use Rattle.block_store.proofs.HeldViews.{held-quiet}
use Rattle.atomic_table.specs.Table.{Me, Allows}
use Rattle.atomic_table.proofs.Lists.{set_again}
use Rattle.step_replays.specs.Replays.{StepResult}
use Rattle.block_store.specs.declared.key.BoardKey.{BoardKey}
use Rattle.block_store.specs.declared.view.View.{View}
use Rattle.block_store.specs.Keys.{step_count, IsReplayOf, outcome_at, skip_of}
use Rattle.block_store.specs.Tallies.{claim_of}
use Rattle.block_store.specs.Rule.{IsView, IsKept}
use Rattle.block_store.specs.Views.{timed}
use Rattle.block_store.specs.Plays.{StandsForAll, IsWhole, IsTimed, HasLooked, HasClaimed}
use Rattle.block_store.proofs.Tallies.{amount-has}
use Rattle.block_store.proofs.Kept.{drawn-bound}
use Rattle.block_store.proofs.QuietMoves.{quiet}
use Rattle.block_store.proofs.SkipMarks.{claimed-word}
use Rattle.block_store.proofs.Whole.{whole}
use Rattle.block_store.proofs.Allowing.{allows}

abbrev pub TellsTimed : Me Grid View → ℕ → Me Grid View → Type 0
TellsTimed me n next = IsTimed n me.0 next.0 × (next.1 ≡ me.1)

abbrev pub TellsLooked : Me Grid View → ℕ → ℕ → Me Grid View → Type 0
TellsLooked me t n next = HasLooked t n me.0 next.0 × (next.1 ≡ me.1)

module _ (key : BoardKey) (id : ℕ) (me : Me Grid View) (alive : me.0.workers ≢ []) (words : List ℕ) (views : List View)
    (kept : IsKept key words views) (at : get_elem? views id ≡ some me.0) where
  own_timed : IsView key (get_or words 0 0) (timed (get_or words 0 0) me.0)
  own_timed = let x = kept.each_view id me.0 at in record {
    begun = x.begun;
    ended = x.ended;
    marked = x.marked;
    noticed = x.noticed;
    outcomes = x.outcomes;
    loaded = omega arith;
    spent = x.spent;
    knows = x.knows;
  }

  is_timed : IsTimed (get_or words 0 0) me.0 (timed (get_or words 0 0) me.0)
  is_timed =
      let n : ℕ = get_or words 0 0 in
      let x = kept.each_view id me.0 at in
      let bound : n ≤ 2 * step_count key = omega (arith, drawn-bound key words views kept, kept.words_are.clock) in
      let all : StandsForAll key me.0 → IsWhole key n (timed n me.0) = λ stands. whole key words views kept id me.0 at stands (timed n me.0) refl own_timed in
      record {
        view = refl;
        later = x.loaded;
        bound = subst (λ k. n ≤ 2 * step_count k) (sym (x.knows alive)) bound;
        whole = subst (λ k. StandsForAll k me.0 → IsWhole k n (timed n me.0)) (sym (x.knows alive)) all;
      }

  has_looked : (t : ℕ) → HasLooked t (get_or words t 0) me.0 me.0
  has_looked t =
      let n : ℕ = get_or words t 0 in
      let tells : HasClaimed me.0 t → (results : List StepResult) → IsReplayOf key results → n ≡ 4294967296 + 8589934592 * skip_of (outcome_at results t)
      = λ mine results replay. claimed-word key words views kept results replay t (omega (arith, amount-has (claim_of t) views id me.0 at)) in
      record {
        view = refl;
        word = subst (λ k. HasClaimed me.0 t → (results : List StepResult) → IsReplayOf k results → n ≡ 4294967296 + 8589934592 * skip_of (outcome_at results t))
            (sym ((kept.each_view id me.0 at).knows alive)) tells;
      }

module _ (key : BoardKey) (slots id : ℕ) (me : Me Grid View) (alive : me.0.workers ≢ []) where
  pub loads_allowed : Allows (λ s. IsRuled key s.words s.homes s.views) slots id me 0 (λ n. n) (TellsTimed me)
  loads_allowed = allows key slots id me 0 (λ n. n) (TellsTimed me) (λ words homes views ruled at fits.
      let kept = ruled.kept in
      let n : ℕ = get_or words 0 0 in
      let after : IsRuled key words homes (set views id (timed n me.0)) = record {
        kept = quiet key words views kept id me.0 at n me.0.found_mark (omega arith) (kept.found_marks id me.0 at);
        held = held-quiet key words homes views kept ruled.held id me.0 at n me.0.found_mark;
      } in
      (timed n me.0, subst (λ y. IsRuled key y homes (set views id (timed n me.0))) (sym (set-get_or words 0 0)) after, (is_timed key id me alive words views kept at, refl)))

  pub looks_allowed : (t : ℕ) → Allows (λ s. IsRuled key s.words s.homes s.views) slots id me t (λ n. n) (TellsLooked me t)
  looks_allowed t = allows key slots id me t (λ n. n) (TellsLooked me t) (λ words homes views ruled at fits.
      let kept = ruled.kept in
      let same : IsRuled key words homes (set views id me.0) = subst (IsRuled key words homes) (sym (set_again views id me.0 at)) ruled in
      (me.0, subst (λ y. IsRuled key y homes (set views id me.0)) (sym (set-get_or words t 0)) same, (has_looked key id me alive words views kept at t, refl)))
