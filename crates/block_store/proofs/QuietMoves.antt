-- Moves that teach no fact: a seat keeps a clock value or a mark that it found, or all tallies stay. They keep the rule.
use Rattle.std.proofs.Common.{◌≡◌, ℕ, ◌+◌, ◌<◌, ◌≤◌, List, get_or, set, Option, Some, refl, ◌∙◌, arith}
use mathlib.Core.Option.{some}
use lib.ListN.{get_elem?}
use Rattle.residue_sums.proofs.Sums.{sum_below-same}
use Rattle.block_store.specs.declared.key.BoardKey.{BoardKey}
use Rattle.block_store.specs.declared.view.Fact.{Fact}
use Rattle.block_store.specs.declared.view.View.{View}
use Rattle.block_store.specs.Keys.{step_count}
use Rattle.block_store.specs.Tallies.{amount, stand_for, claim_of, begin_of, end_of, mark_of, notice_of, last_of, stamp_of, start_of, finish_of, marked_into}
use Rattle.block_store.specs.Rule.{IsView, IsKept}
use Rattle.block_store.proofs.Tallies.{amount-same, stand_for-set}
use Rattle.block_store.proofs.Kept.{claims-same, stamps-same, words-same, each_after, found_marks-after}

-- a view by itself and its found mark are right
abbrev pub IsRight : BoardKey → ℕ → List View → View → Type 0
IsRight key clock views v = IsView key clock v × ((t : ℕ) → v.found_mark ≡ Some t → 0 < marked_into views key t)

-- the rule where all tallies stay
pub kept-same : (key : BoardKey) (words : List ℕ) (views views' : List View) → IsKept key words views → ((h : Fact → ℕ) → amount h views' ≡ amount h views)
    → ((worker : ℕ) → stand_for worker views' ≡ stand_for worker views) → ((j : ℕ) (u : View) → get_elem? views' j ≡ some u → IsRight key (get_or words 0 0) views u)
    → IsKept key words views'
kept-same key words views views' kept same workers each = record {
  words_are = words-same key words views views' (λ u. same (claim_of u)) (λ s u. same (notice_of s u)) (λ s u. same (mark_of s u))
      (λ u. omega (arith, same (begin_of u), same (end_of u))) kept.words_are;
  claims_are = claims-same key views views' (λ u. same (claim_of u)) (λ s u. same (notice_of s u)) (λ s u. same (mark_of s u)) (λ u. same (last_of u)) kept.claims_are;
  stamps_are = stamps-same key (get_or words 0 0) (get_or words 0 0) views views' refl (λ n. same (stamp_of n)) (λ u. same (begin_of u)) (λ u. same (end_of u))
      (λ u. same (start_of u)) (λ u. same (finish_of u)) kept.stamps_are;
  each_view = λ j u at. (each j u at).0;
  found_marks = λ j u at t found.
      let marks : marked_into views' key t ≡ marked_into views key t = sum_below-same _ _ (step_count key + 1) (λ s q. same (mark_of s t)) in
      omega (arith, (each j u at).1 t found);
  workers_are = λ worker. workers worker ∙ kept.workers_are worker;
  small = kept.small;
}

module _ (key : BoardKey) (words : List ℕ) (views : List View) (kept : IsKept key words views) (id : ℕ) (v : View) (at : get_elem? views id ≡ some v) where
  -- the seat keeps a clock value and a mark
  pub quiet : (c : ℕ) (found : Option ℕ) → c ≤ get_or words 0 0 → ((t : ℕ) → found ≡ Some t → 0 < marked_into views key t)
      → IsKept key words (set views id (record v { clock = c; found_mark = found }))
  quiet c found low stands =
      let w : View = record v { clock = c; found_mark = found } in
      kept-same key words views (set views id w) kept (λ h. amount-same h views id v w at refl)
      (λ worker. omega (arith, stand_for-set worker views id v w at))
      (λ j u there. (
        each_after key words views kept id v at (get_or words 0 0) (omega arith) w own j u there,
        λ t is. marks (λ s. same_marks s) j u there t is,
      ))
    where
      own : IsView key (get_or words 0 0) (record v { clock = c; found_mark = found })
      own = let x = kept.each_view id v at in record {
        begun = x.begun;
        ended = x.ended;
        marked = x.marked;
        noticed = x.noticed;
        outcomes = x.outcomes;
        loaded = low;
        spent = x.spent;
        knows = x.knows;
      }

      same_marks : (t : ℕ) → marked_into (set views id (record v { clock = c; found_mark = found })) key t ≡ marked_into views key t
      same_marks t = sum_below-same _ _ (step_count key + 1) (λ s q. amount-same (mark_of s t) views id v (record v { clock = c; found_mark = found }) at refl)

      marks : ((t : ℕ) → marked_into (set views id (record v { clock = c; found_mark = found })) key t ≡ marked_into views key t)
          → (j : ℕ) (u : View) → get_elem? (set views id (record v { clock = c; found_mark = found })) j ≡ some u → (t : ℕ) → u.found_mark ≡ Some t → 0 < marked_into views key t
      marks same j u there t is = omega (
        arith,
        same t,
        found_marks-after key words views kept id v at (record v { clock = c; found_mark = found }) (λ y. omega (arith, same y)) (λ y z. omega (arith, same y, stands y z)) j u there t is,
      )
