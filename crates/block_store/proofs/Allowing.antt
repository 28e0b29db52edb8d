-- The steps on the board's words by which a step of a run begins and ends, and an edge is marked and noticed, are allowed.
use Rattle.std.proofs.Common.{◌≡◌, ◌≢◌, ℕ, ◌+◌, ◌*◌, ◌-◌, ◌%◌, ◌^◌, ◌<◌, ◌≤◌, ◌⊎◌, true, List, [], length, get_or, set, refl, sym, ap, subst, arith}
use Rattle.std.proofs.lemmas.List.{get_or-set_same}
use Rattle.std.specs.Int.Bits.{bit_or}
use mathlib.Core.Option.{some}
use mathlib.Core.Option as maybe
use lib.ListN.{get_elem?}
use Rattle.std.proofs.Math.ListN.{length-set}
use Rattle.residue_sums.specs.Grids.{Grid}
use Rattle.block_store.specs.declared.view.Fact.{Fact}
use Rattle.block_store.specs.Holding.{IsHeld, IsRuled}
use Rattle.block_store.proofs.Edges.{edge-steps}
use Rattle.block_store.proofs.Learning.{after}
use Rattle.block_store.proofs.HeldViews.{held-still, turns-stay}
use Rattle.block_store.proofs.EndedBlocks.{held-ended}
use Rattle.atomic_table.specs.Table.{Me, Allows, keeps}
use Rattle.block_store.specs.declared.key.BoardKey.{BoardKey}
use Rattle.block_store.specs.declared.outcome.StepOutcome.{StepOutcome}
use Rattle.block_store.specs.declared.view.Fact.TheVariants.{Began, Ended, Marked, Noticed}
use Rattle.block_store.specs.declared.view.View.{View}
use Rattle.block_store.specs.Keys.{is_bad, step_count, IsOutcome, edge}
use Rattle.block_store.specs.Tallies.{weigh, end_of, gave_of, put_of, stamp_of, took_of}
use Rattle.block_store.specs.Rule.{IsKept}
use Rattle.block_store.specs.Views.{learned}
use Rattle.block_store.specs.Plays.{HasPut, NoLast, IsNewStamp, HasClaimed, HasBegun, NotBegun, NotEnded, HasEndedBad, MayNotify, NotNoticed, NotMarked}
use Rattle.block_store.proofs.Sums.{below-ge}
use Rattle.block_store.proofs.Tallies.{amount-has}
use Rattle.block_store.proofs.Kept.{drawn-small, drawn-bound}
use Rattle.block_store.proofs.BeginMoves.{begun}
use Rattle.block_store.proofs.EndMoves.{ended}
use Rattle.block_store.proofs.NoticeMoves.{noticed, count_is, no_last}
use Rattle.block_store.proofs.MarkMoves.{marked}

pub not_empty : (workers : List ℕ) → 0 < length workers → workers ≢ []
not_empty workers h e = let z : length workers ≡ 0 = ap length e in omega arith

module _ (key : BoardKey) (slots id : ℕ) (me : Me Grid View) (i : ℕ) (f : ℕ → ℕ) (then : ℕ → Me Grid View → Type 0) where
  -- whatever the words, homes and views are that meet the rule, the seat can have a view that keeps it and is what the step tells
  abbrev pub Moves : Type 0
  Moves = (words : List ℕ) (homes : List (maybe.Option Grid)) (views : List View) → IsRuled key words homes views → get_elem? views id ≡ some me.0 → get_or words i 0 < 18446744073709551616
      → (w : View) × IsRuled key (set words i (f (get_or words i 0))) homes (set views id w) × then (get_or words i 0) (w, me.1)

  pub allows : Moves → Allows (λ s. IsRuled key s.words s.homes s.views) slots id me i f then
  allows move s ruled len at fits = let m = move s.words s.homes s.views ruled at fits in (m.0, keeps, tt, m.1, m.2)

  -- the same, where f gives a number that a lemma has written in another way
  pub moved : (words : List ℕ) (homes : List (maybe.Option Grid)) (views : List View) (w : View) (n : ℕ) → f (get_or words i 0) ≡ n → IsKept key (set words i n) (set views id w)
      → IsHeld key (set words i n) homes (set views id w) → then (get_or words i 0) (w, me.1)
      → (w : View) × IsRuled key (set words i (f (get_or words i 0))) homes (set views id w) × then (get_or words i 0) (w, me.1)
  moved words homes views w n e kept held told = (w, subst (λ x. IsRuled key (set words i x) homes (set views id w)) (sym e) (record { kept = kept; held = held }), told)

-- a word of the clock or of a step is written, and the seat learns a fact that says nothing of blocks or ends
pub held-apart : (key : BoardKey) (words : List ℕ) (homes : List (maybe.Option Grid)) (views : List View) → IsRuled key words homes views → (id : ℕ) (v : View)
    → get_elem? views id ≡ some v → (i n : ℕ) → i ≤ step_count key → (e : Fact) → ((x : ℕ) → took_of x e ≡ 0) → ((x : ℕ) → gave_of x e ≡ 0) → ((t : ℕ) → put_of t e ≡ 0)
    → ((t : ℕ) → end_of t e ≡ 0) → IsHeld key (set words i n) homes (after views id v e)
held-apart key words homes views ruled id v at i n low e a g p z =
    held-still key words homes views ruled.kept ruled.held id v at (set words i n) e (length-set words i n) (turns-stay key words i n low) a g p z

less : (n : ℕ) → 1 ≤ n → n < 18446744073709551616 → (n + (2 ^ 64 - 1)) % 2 ^ 64 ≡ n - 1
less n low high = omega arith

-- what each step tells, by the number that it found
module _ (me : Me Grid View) where
  abbrev pub TellsBegun : ℕ → ℕ → Me Grid View → Type 0
  TellsBegun t n next = (next.0 ≡ learned (Began t n) me.0) × (next.1 ≡ me.1) × IsNewStamp n me.0

  abbrev pub TellsEnded : ℕ → StepOutcome → ℕ → Me Grid View → Type 0
  TellsEnded t o n next = (next.0 ≡ learned (Ended t n o) me.0) × (next.1 ≡ me.1) × IsNewStamp n me.0

  abbrev pub TellsNoticed : ℕ → ℕ → ℕ → Me Grid View → Type 0
  TellsNoticed s t n next = (next.0 ≡ learned (Noticed s t (n % 4294967296 - 1)) me.0) × (0 < n % 4294967296) × NoLast t me.0 × (next.1 ≡ me.1)

  abbrev pub TellsMarked : ℕ → ℕ → ℕ → Me Grid View → Type 0
  TellsMarked s t n next = (next.0 ≡ learned (Marked s t) me.0) × (next.1 ≡ me.1)

module _ (key : BoardKey) (slots id : ℕ) (me : Me Grid View) (alive : me.0.workers ≢ []) where
  -- what the clock gives is a new stamp
  new_stamp : (words : List ℕ) (views : List View) → IsKept key words views → get_elem? views id ≡ some me.0 → (views' : List View)
      → IsKept key (set words 0 (get_or words 0 0 + 1)) views' → IsNewStamp (get_or words 0 0) me.0
  new_stamp words views kept at views' after =
      let n : ℕ = get_or words 0 0 in
      let now : get_or (set words 0 (n + 1)) 0 0 ≡ n + 1 = get_or-set_same words 0 (n + 1) 0 (omega (arith, kept.words_are.long)) in
      let low : n < 2 * step_count key = omega (arith, drawn-bound key (set words 0 (n + 1)) views' after, after.words_are.clock) in
      let none : weigh (stamp_of n) me.0.facts ≡ 0 = omega (arith, kept.stamps_are.drawn_once n, below-ge n n (omega arith), amount-has (stamp_of n) views id me.0 at) in
      (subst (λ k. n < 2 * step_count k) (sym ((kept.each_view id me.0 at).knows alive)) low, none)

  small : (words : List ℕ) (views : List View) → IsKept key words views → (get_or words 0 0 + 1) % 2 ^ 64 ≡ get_or words 0 0 + 1
  small words views kept = omega (arith, drawn-small key words views kept, kept.words_are.clock, kept.small)

  pub begins_allowed : (t : ℕ) → HasClaimed me.0 t → NotBegun me.0 t
      → Allows (λ s. IsRuled key s.words s.homes s.views) slots id me 0 (λ n. (n + 1) % 2 ^ 64) (TellsBegun me t)
  begins_allowed t mine fresh = allows key slots id me 0 (λ n. (n + 1) % 2 ^ 64) (TellsBegun me t) (λ words homes views ruled at fits.
      let kept = ruled.kept in
      let n : ℕ = get_or words 0 0 in
      let w : View = learned (Began t n) me.0 in
      let after : IsKept key (set words 0 (n + 1)) (set views id w) = begun key words views kept id me.0 at alive t n mine fresh refl in
      moved key slots id me 0 (λ n. (n + 1) % 2 ^ 64) (TellsBegun me t) words homes views w (n + 1) (small words views kept) after (held-apart key words homes views ruled id me.0 at 0 (n + 1) (omega arith) (Began t n) (λ x. refl) (λ x. refl) (λ u. refl) (λ u. refl)) (refl, refl, new_stamp words views kept at (set views id w) after))

  pub ends_allowed : (t : ℕ) (o : StepOutcome) → HasBegun me.0 t → NotEnded me.0 t → IsOutcome key t o → (is_bad o ≡ true) ⊎ HasPut me.0 t
      → Allows (λ s. IsRuled key s.words s.homes s.views) slots id me 0 (λ n. (n + 1) % 2 ^ 64) (TellsEnded me t o)
  ends_allowed t o mine fresh right done = allows key slots id me 0 (λ n. (n + 1) % 2 ^ 64) (TellsEnded me t o) (λ words homes views ruled at fits.
      let kept = ruled.kept in
      let n : ℕ = get_or words 0 0 in
      let w : View = learned (Ended t n o) me.0 in
      let after : IsKept key (set words 0 (n + 1)) (set views id w) = ended key words views kept id me.0 at alive t n o mine fresh right refl in
      moved key slots id me 0 (λ n. (n + 1) % 2 ^ 64) (TellsEnded me t o) words homes views w (n + 1) (small words views kept) after (held-ended key words homes views kept ruled.held id me.0 at t n o mine fresh right done (set words 0 (n + 1)) (length-set words 0 (n + 1)) (turns-stay key words 0 (n + 1) (omega arith))) (refl, refl, new_stamp words views kept at (set views id w) after))

  pub notices_allowed : (s t : ℕ) → NotNoticed me.0 s t → 0 < edge key s t → MayNotify me.0 s t
      → Allows (λ s. IsRuled key s.words s.homes s.views) slots id me t (λ n. (n + (2 ^ 64 - 1)) % 2 ^ 64) (TellsNoticed me s t)
  notices_allowed s t fresh is_edge may = allows key slots id me t (λ n. (n + (2 ^ 64 - 1)) % 2 ^ 64) (TellsNoticed me s t) (λ words homes views ruled at fits.
      let kept = ruled.kept in
      let n : ℕ = get_or words t 0 in
      let count = count_is key words views kept id me.0 at alive s t n fresh is_edge may refl in
      let w : View = learned (Noticed s t (n % 4294967296 - 1)) me.0 in
      moved key slots id me t (λ n. (n + (2 ^ 64 - 1)) % 2 ^ 64) (TellsNoticed me s t) words homes views w (n - 1) (less n count.0 fits)
      (noticed key words views kept id me.0 at alive s t n fresh is_edge may refl)
      (held-apart key words homes views ruled id me.0 at t (n - 1) (edge-steps key s t is_edge).1.1 (Noticed s t (n % 4294967296 - 1)) (λ x. refl) (λ x. refl) (λ u. refl) (λ u. refl))
      (refl, count.2, no_last key words views kept id me.0 at alive s t n fresh is_edge may refl, refl))

  pub marks_allowed : (s t : ℕ) → NotMarked me.0 s t → 0 < edge key s t → HasEndedBad me.0 s
      → Allows (λ s. IsRuled key s.words s.homes s.views) slots id me t (λ n. bit_or n 8589934592) (TellsMarked me s t)
  marks_allowed s t fresh is_edge bad = allows key slots id me t (λ n. bit_or n 8589934592) (TellsMarked me s t) (λ words homes views ruled at fits.
      let kept = ruled.kept in
      moved key slots id me t (λ n. bit_or n 8589934592) (TellsMarked me s t) words homes views (learned (Marked s t) me.0) (bit_or (get_or words t 0) 8589934592) refl
      (marked key words views kept id me.0 at alive s t (get_or words t 0) fresh is_edge bad refl)
      (held-apart key words homes views ruled id me.0 at t (bit_or (get_or words t 0) 8589934592) (edge-steps key s t is_edge).1.1 (Marked s t) (λ x. refl) (λ x. refl) (λ u. refl) (λ u. refl))
      (refl, refl))
