-- Which version of a block a running step finds, and the values of blocks by the numbers of steps.
use Rattle.std.proofs.Common.{◌≡◌, ◌≢◌, ℕ, zero, suc, ◌+◌, ◌-◌, ◌<◌, ◌≤◌, ◌⊎◌, inl, inr, max, Bool, true, false, cond, List, refl, sym, ap, ◌∙◌, subst, arith}
use Rattle.std.specs.Prelude.{◌==◌, nat_lt}
use Rattle.std.proofs.lemmas.Bool.{cases_Bool, cases_eq, eq-eqb, eqb-true, false≢true, or_cases, or_right, and_from, and_parts, lt-ltb, ltb-true}
use mathlib.Core.Option.{some}
use lib.ListN.{get_elem?}
use Rattle.residue_sums.specs.Grids.{Grid}
use Rattle.dependence_queue.specs.Conflicts.{ConflictOn, has_number, conflicts}
use Rattle.dependence_queue.specs.Chains.{IsConflict}
use Rattle.dependence_queue.proofs.EdgesBetween.{conflicts-from}
use Rattle.step_replays.specs.Replays.{StepResult, IsStop, block_after, nth_access, nth_result, nth_step, value, written, writes_before}
use Rattle.step_replays.specs.Replays as replays
use Rattle.step_replays.proofs.ValueLaws.{value-before, value-next}
use Rattle.schedule_core.specs.EventBlocks.{step_access}
use Rattle.block_store.specs.declared.key.BoardKey.{BoardKey}
use Rattle.block_store.specs.declared.outcome.StepOutcome.{StepOutcome}
use Rattle.block_store.specs.declared.view.View.{View}
use Rattle.block_store.specs.Blocks.{access_of, block_count, IsFound, IsLeft, uses, is_writer, writes_to, IsValue}
use Rattle.block_store.specs.Holding.{version, HaveLast, IsHolder}
use Rattle.block_store.specs.Keys.{step_count, IsStep, IsOutcome, is_bad, outcome_at, IsReplayOf}
use Rattle.block_store.specs.Rule.{IsKept}
use Rattle.block_store.specs.Tallies.{begin_of, put_of, begins, ends, puts}
use Rattle.block_store.proofs.Sums.{sum_below-cut}
use Rattle.block_store.proofs.Tallies.{amount-le}
use Rattle.block_store.proofs.Kept.{begins-le, ends-le}
use Rattle.block_store.proofs.Forward.{along-conflicts}
use Rattle.block_store.proofs.Skips.{stop-from_bad}

-- ---- tests

pub writer-is : (key : BoardKey) (x s : ℕ) → is_writer key x s ≡ true → (0 < s) × ((access_of key s).write ≡ x)
writer-is key x s h =
    let p = and_parts (nat_lt 0 s) ((access_of key s).write == x) h in
    (ltb-true 0 s p.0, eqb-true (access_of key s).write x p.1)

pub is-writer : (key : BoardKey) (x s : ℕ) → 0 < s → ((access_of key s).write == x) ≡ true → is_writer key x s ≡ true
is-writer key x s low h = and_from (nat_lt 0 s) ((access_of key s).write == x) (lt-ltb 0 s low) h

pub writer-uses : (key : BoardKey) (x t : ℕ) → ((access_of key t).write == x) ≡ true → uses key t x ≡ true
writer-uses key x t h = or_right (has_number (access_of key t).reads x) ((access_of key t).write == x) h

pub cond-agree : (b : Bool) (m n : ℕ) → (b ≡ true → m ≡ n) → cond b m 0 ≡ cond b n 0
cond-agree true m n h = h refl
cond-agree false m n h = refl

pub cond-zero : (b : Bool) (m : ℕ) → (b ≡ true → m ≡ 0) → cond b m 0 ≡ 0
cond-zero true m h = h refl
cond-zero false m h = refl

-- ---- conflicts, by who writes the block

first-writes : (key : BoardKey) (x s t : ℕ) → (access_of key s).write ≡ x → uses key t x ≡ true → conflicts (access_of key s) (access_of key t) ≡ true
first-writes key x s t w h = conflicts-from (access_of key s) (access_of key t) x (on (or_cases (has_number (access_of key t).reads x) ((access_of key t).write == x) h))
  where
    on : (has_number (access_of key t).reads x ≡ true) ⊎ (((access_of key t).write == x) ≡ true) → ConflictOn (access_of key s) (access_of key t) x
    on (inl reads) = inl (reads, w)
    on (inr also) = inr (inr (w, eqb-true (access_of key t).write x also))

last-writes : (key : BoardKey) (x s t : ℕ) → uses key s x ≡ true → (access_of key t).write ≡ x → conflicts (access_of key s) (access_of key t) ≡ true
last-writes key x s t h w = conflicts-from (access_of key s) (access_of key t) x (on (or_cases (has_number (access_of key s).reads x) ((access_of key s).write == x) h))
  where
    on : (has_number (access_of key s).reads x ≡ true) ⊎ (((access_of key s).write == x) ≡ true) → ConflictOn (access_of key s) (access_of key t) x
    on (inl reads) = inr (inl (reads, w))
    on (inr also) = inr (inr (eqb-true (access_of key s).write x also, w))

-- ---- versions

module _ (key : BoardKey) (words : List ℕ) (views : List View) (kept : IsKept key words views) (holders : (j : ℕ) (v : View) → get_elem? views j ≡ some v → IsHolder v) where
  pub puts-le : (t : ℕ) → puts views t ≤ begins views t
  puts-le t = amount-le (put_of t) (begin_of t) views (λ j v at. (holders j v at).puts_begun t)

  -- each step before a begun one that it conflicts with has ended
  pub ended_before : (s t : ℕ) → 0 < s → t ≤ step_count key → IsConflict (step_access key.steps.value) s t → 0 < begins views t → 0 < ends views s
  ended_before = along-conflicts key (λ a b. 0 < begins views b → 0 < ends views a)
      (λ a r b step first last begun. first (let e = last begun in omega (arith, ends-le key words views kept r))) (λ a b e begun. kept.stamps_are.edge_ended a b e begun)

  -- a step that has begun, and has neither ended nor put, finds the version that the steps before it leave
  pub version_is : (t x : ℕ) → IsStep key t → uses key t x ≡ true → 0 < begins views t → ends views t ≡ 0 → puts views t ≡ 0 → version views key x ≡ writes_to key x t
  version_is t x step touch begun unended unput =
      sum_below-cut (λ s. cond (is_writer key x s) (max (puts views s) (ends views s)) 0) (λ s. cond (is_writer key x s) 1 0) t (step_count key + 1) (omega (arith, step))
      (λ s below. cond-agree (is_writer key x s) _ _ (λ w. early s below (writer-is key x s w)))
      (λ s from below. cond-zero (is_writer key x s) _ (λ w. late s from below (writer-is key x s w) (cases_eq s t)))
    where
      early : (s : ℕ) → s < t → (0 < s) × ((access_of key s).write ≡ x) → max (puts views s) (ends views s) ≡ 1
      early s below w =
          let e = ended_before s t w.0 step.1 (below, first-writes key x s t w.1 touch) begun in
          omega (arith, kept.claims_are.once s, begins-le key words views kept s, ends-le key words views kept s, puts-le s)

      late : (s : ℕ) → t ≤ s → s < step_count key + 1 → (0 < s) × ((access_of key s).write ≡ x) → (s ≡ t) ⊎ (s ≢ t) → max (puts views s) (ends views s) ≡ 0
      late s from below w (inl e) = omega (arith, ap (λ y. puts views y) e, ap (λ y. ends views y) e)
      late s from below w (inr ne) = elim (cases_eq (begins views s) 0) [
        | inl z ↦ omega (arith, puts-le s, ends-le key words views kept s)
        | inr nz ↦ absurd (let e = ended_before t s step.0 (omega arith) (omega arith, last-writes key x t s touch w.1) (omega arith) in omega arith)
      ]

-- ---- values

-- writes counted by the numbers from 1, and by those from 0
pub counted_writes : (key : BoardKey) (results : List StepResult) (x s : ℕ) → writes_to key x (suc s) ≡ writes_before key.job.value key.b key.steps.value results s x
counted_writes key results x zero = omega arith
counted_writes key results x (suc s) =
    let so_far = counted_writes key results x s in
    let e : suc s - 1 ≡ s = omega arith in
    elim (cases_Bool ((nth_step key.steps.value s).access.write == x)) [
      | inl w ↦ (let here : is_writer key x (suc s) ≡ true = is-writer key x (suc s) (omega arith) (subst (λ k. ((nth_access key.steps.value k).write == x) ≡ true) (sym e) w) in
          rw w (omega (arith, so_far, ap (λ (b : Bool). one_if b) here)))
      | inr n ↦ (let here : cond (is_writer key x (suc s)) 1 0 ≡ 0 = cond-zero (is_writer key x (suc s)) 1 (λ w. absurd (other w n)) in
          rw n (omega (arith, so_far, here)))
    ]
  where
    one_if : Bool → ℕ
    one_if b = cond b 1 0

    other : is_writer key x (suc s) ≡ true → ((nth_step key.steps.value s).access.write == x) ≡ false → ⊥
    other w n =
        let e : suc s - 1 ≡ s = omega arith in
        let at : (nth_access key.steps.value s).write ≡ x = subst (λ k. (nth_access key.steps.value k).write ≡ x) e (writer-is key x (suc s) w).1 in
        false≢true (sym n ∙ eq-eqb (nth_access key.steps.value s).write x at)

written-stop : (r : StepResult) (old : Grid) → IsStop r → written r old ≡ old
written-stop (replays.Ran v) old h = absurd h
written-stop replays.Skipped old h = refl
written-stop (replays.Failed place) old h = refl

pub writes_before-step : (key : BoardKey) (results : List StepResult) (x t : ℕ) → 0 < t → writes_to key x t ≡ writes_before key.job.value key.b key.steps.value results (t - 1) x
writes_before-step key results x t low =
    let e : suc (t - 1) ≡ t = omega arith in
    ap (λ (k : ℕ). writes_to key x k) (sym e) ∙ counted_writes key results x (t - 1)

-- a step that failed or was skipped leaves its block as it found it
pub bad-keeps : (key : BoardKey) (t : ℕ) (o : StepOutcome) (x : ℕ) (g : Grid) → IsStep key t → IsOutcome key t o → is_bad o ≡ true → (access_of key t).write ≡ x
    → IsValue key x (writes_to key x t) g → IsValue key x (writes_to key x t + 1) g
unfolding outcome_at
bad-keeps key t o x g step right bad w found = λ results replay.
    let job = key.job.value in
    let steps = key.steps.value in
    let stop : IsStop (nth_result results (t - 1)) = stop-from_bad (nth_result results (t - 1)) (ap is_bad (sym (right results replay)) ∙ bad) in
    let count : writes_to key x t ≡ writes_before job key.b steps results (t - 1) x = writes_before-step key results x t step.0 in
    let more : suc (writes_before job key.b steps results (t - 1) x) ≡ writes_to key x t + 1 = omega (arith, count) in
    let next : value job key.b steps results x (suc (writes_before job key.b steps results (t - 1) x)) ≡ value job key.b steps results x (writes_before job key.b steps results (t - 1) x)
    = subst (λ y. value job key.b steps results y (suc (writes_before job key.b steps results (t - 1) y)) ≡ value job key.b steps results y (writes_before job key.b steps results (t - 1) y)) w
    (value-next job key.b steps results (t - 1) (omega (arith, step)) ∙ written-stop (nth_result results (t - 1)) _ stop) in
    found results replay ∙ (ap (λ (v : ℕ). value job key.b steps results x v) count ∙ (sym next ∙ ap (λ (v : ℕ). value job key.b steps results x v) more))

-- ---- what a step finds and leaves, by the blocks after the steps

pub found-after : (key : BoardKey) (results : List StepResult) → IsReplayOf key results → (t x : ℕ) (g : Grid) → IsStep key t → IsFound key t x g
    → g ≡ block_after key.job.value key.b key.steps.value results (t - 1) x
found-after key results replay t x g step is =
    is results replay ∙ (ap (λ (v : ℕ). value key.job.value key.b key.steps.value results x v) (writes_before-step key results x t step.0)
    ∙ value-before key.job.value key.b key.steps.value results (t - 1) x (omega (arith, step)))

pub last-after : (key : BoardKey) (results : List StepResult) → IsReplayOf key results → (slots : List Grid) → HaveLast key slots → (x : ℕ) → x < block_count key
    → get_elem? slots x ≡ some (block_after key.job.value key.b key.steps.value results (step_count key) x)
last-after key results replay slots last x lt =
    let h = last.each x lt in
    let one : step_count key + 1 ≡ suc (step_count key) = omega arith in
    let count : writes_to key x (step_count key + 1) ≡ writes_before key.job.value key.b key.steps.value results (step_count key) x
    = ap (λ (k : ℕ). writes_to key x k) one ∙ counted_writes key results x (step_count key) in
    h.1 ∙ ap some (h.2 results replay ∙ (ap (λ (v : ℕ). value key.job.value key.b key.steps.value results x v) count
    ∙ value-before key.job.value key.b key.steps.value results (step_count key) x (omega arith)))

pub left-after : (key : BoardKey) (results : List StepResult) → IsReplayOf key results → (t : ℕ) (g : Grid) → IsStep key t → IsLeft key t (access_of key t).write g
    → g ≡ block_after key.job.value key.b key.steps.value results t (access_of key t).write
left-after key results replay t g step is =
    let x : ℕ = (access_of key t).write in
    let here : is_writer key x t ≡ true = is-writer key x t step.0 (eq-eqb x x refl) in
    let one : t + 1 ≡ suc t = omega arith in
    let more : writes_to key x t + 1 ≡ writes_to key x (suc t) = omega (arith, ap (λ (b : Bool). one_if b) here) in
    is results replay ∙ (ap (λ (v : ℕ). value key.job.value key.b key.steps.value results x v) (more ∙ counted_writes key results x t)
    ∙ value-before key.job.value key.b key.steps.value results t x step.1)
  where
    one_if : Bool → ℕ
    one_if b = cond b 1 0
