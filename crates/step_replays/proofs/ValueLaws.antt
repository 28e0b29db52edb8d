-- The values of a block after so many writes, and which steps are skipped.
use Rattle.std.proofs.Common.{◌≡◌, ◌≢◌, ℕ, zero, suc, ◌+◌, ◌*◌, ◌<◌, ◌≤◌, ◌⊎◌, inl, inr, Bool, true, false, if◌then◌else◌, List, length, refl, sym, ◌∙◌, ap, subst, arith}
use Rattle.std.specs.Prelude.{◌==◌, ◌&&◌, ◌||◌, nat_lt, IsTrue}
use Rattle.std.proofs.lemmas.Bool.{cases_Bool, cases_eq, cases_lt, lt-ltb, eqb-true, or_cases, false≢true}
use Rattle.std.proofs.lemmas.Bool.Decides.{nat_tests}
use Rattle.residue_sums.specs.Grids.{Grid}
use Rattle.equation.specs.declared.job.Job.{Job}
use Rattle.equation.specs.declared.job.Place.{Place}
use Rattle.step_replays.specs.declared.step.Step.{Step}
use Rattle.dependence_queue.specs.declared.access.Access.{Access}
use Rattle.step_replays.specs.Accesses.{first_block}
use Rattle.dependence_queue.specs.Conflicts.{conflicts, IsDirectEdge}
use Rattle.dependence_queue.proofs.EdgesBetween.{edge-conflicts, conflict-comes_in}
use Rattle.step_replays.specs.Replays.{StepResult, Ran, Skipped, Failed, nth_step, nth_access, nth_result, written, block_after, writes_before, value_within, value, IsStop, IsStopped, IsResult, IsReplay}

module _ (job : Job) (b : ℕ) (steps : List Step) (results : List StepResult) where
  abbrev writes : ℕ → ℕ → Bool
  writes s x = (nth_step steps s).access.write == x

  abbrev block : ℕ → ℕ → Grid
  block s x = block_after job b steps results s x

  abbrev count : ℕ → ℕ → ℕ
  count s x = writes_before job b steps results s x

  abbrev within : ℕ → ℕ → ℕ → Grid
  within s x v = value_within job b steps results s x v

  -- a block of which no write is counted
  first-value : (s x : ℕ) → value_within job b steps results s x 0 ≡ first_block job b x
  first-value zero x = refl
  first-value (suc s) x = elim (cases_Bool (writes s x)) [
    | inl w ↦ (let e : nat_lt (count s x) 0 ≡ false = grind (arith, nat_tests) in rw (w, e) (first-value s x))
    | inr n ↦ rw n (first-value s x)
  ]

  -- V1: before all writes a block is as the job gives it
  pub value-zero : (x : ℕ) → value job b steps results x 0 ≡ first_block job b x
  value-zero x = first-value (length steps) x

  count-more : (s x : ℕ) → writes_before job b steps results s x ≤ writes_before job b steps results (suc s) x
  count-more s x = elim (cases_Bool (writes s x)) [ inl w ↦ rw w (omega arith) | inr n ↦ rw n (omega arith) ]

  counts-ascend : (s t x : ℕ) → s ≤ t → writes_before job b steps results s x ≤ writes_before job b steps results t x
  counts-ascend s zero x le = let e : s ≡ 0 = omega arith in rw e (omega arith)
  counts-ascend s (suc t) x le = elim (cases_eq s (suc t)) [
    | inl same ↦ rw same (omega arith)
    | inr less ↦ omega (arith, counts-ascend s t x (omega arith), count-more t x)
  ]

  -- with all writes counted, it is the block as it stands
  all-counted : (s x v : ℕ) → writes_before job b steps results s x ≤ v → value_within job b steps results s x v ≡ block_after job b steps results s x
  all-counted zero x v le = refl
  all-counted (suc s) x v le = elim (cases_Bool (writes s x)) [
    | inl w ↦ (let le' : suc (count s x) ≤ v = rw w at le in
        let e : nat_lt (count s x) v ≡ true = lt-ltb (count s x) v le' in
        rw (w, e) (ap (λ (g : Grid). written (nth_result results s) g) (all-counted s x v (omega arith))))
    | inr n ↦ (let le' : count s x ≤ v = rw n at le in rw n (all-counted s x v le'))
  ]

  later-writes : (s t x : ℕ) → s ≤ t → value_within job b steps results t x (writes_before job b steps results s x) ≡ block_after job b steps results s x
  later-writes s zero x le = let e : s ≡ 0 = omega arith in rw e refl
  later-writes s (suc t) x le = elim (cases_eq s (suc t)) [
    | inl same ↦ rw same (all-counted (suc t) x (count (suc t) x) (omega arith))
    | inr less ↦ elim (cases_Bool (writes t x)) [
      | inl w ↦ (let e : nat_lt (count t x) (count s x) ≡ false = (let h : count s x ≤ count t x = counts-ascend s t x (omega arith) in grind (arith, nat_tests)) in
          rw (w, e) (later-writes s t x (omega arith)))
      | inr n ↦ rw n (later-writes s t x (omega arith))
    ]
  ]

  -- a block as a step finds it is its value after the writes before the step
  pub value-before : (s x : ℕ) → s ≤ length steps → value job b steps results x (writes_before job b steps results s x) ≡ block_after job b steps results s x
  value-before s x le = later-writes s (length steps) x le

  -- V2, the part without kernels: after the step its block has the value after one more write
  pub value-next : (s : ℕ) → s < length steps
      → value job b steps results (nth_step steps s).access.write (suc (writes_before job b steps results s (nth_step steps s).access.write))
      ≡ written (nth_result results s) (value job b steps results (nth_step steps s).access.write (writes_before job b steps results s (nth_step steps s).access.write))
  value-next s below =
      let x : ℕ = (nth_step steps s).access.write in
      let e : (x == x) ≡ true = grind (arith, nat_tests) in
      let n : writes_before job b steps results (suc s) x ≡ suc (count s x) = rw e refl in
      let h : block_after job b steps results (suc s) x ≡ written (nth_result results s) (block_after job b steps results s x) = rw e refl in
      ap (λ (v : ℕ). value job b steps results x v) (sym n) ∙ value-before (suc s) x below ∙ h
      ∙ ap (λ (g : Grid). written (nth_result results s) g) (sym (value-before s x (omega arith)))

  -- ---- V3

  module _ (replay : IsReplay job b steps results) where
    -- what conflicts with an earlier stop is a stop
    stops : (q s : ℕ) → q < s → s < length steps → IsStop (nth_result results q) → conflicts (nth_step steps q).access (nth_step steps s).access ≡ true → nth_result results s ≡ Skipped
    stops q s before s_in stop conflict = go (nth_result results s) refl (replay.each s s_in)
      where
        go : (x : StepResult) → nth_result results s ≡ x → IsResult job b steps results s (nth_result results s) → nth_result results s ≡ Skipped
        go Skipped e is = e
        go (Ran v) e is = let h : IsResult job b steps results s (Ran v) = subst (IsResult job b steps results s) e is in absurd (h.0 (q, before, stop, conflict))
        go (Failed place) e is = let h : IsResult job b steps results s (Failed place) = subst (IsResult job b steps results s) e is in absurd (h.0 (q, before, stop, conflict))

    -- V3: a step is skipped exactly where a direct edge goes into it from a step that failed or was skipped
    pub skipped-by_edge : (q s : ℕ) → s < length steps → IsStop (nth_result results q) → IsDirectEdge (nth_access steps) q s → nth_result results s ≡ Skipped
    skipped-by_edge q s s_in stop edge = let c = edge-conflicts (nth_access steps) q s edge in stops q s c.0 s_in stop c.1

    pub edge-of_skipped : (s : ℕ) → s < length steps → nth_result results s ≡ Skipped → (q : ℕ) × IsStop (nth_result results q) × IsDirectEdge (nth_access steps) q s
    edge-of_skipped s s_in skipped =
        let h : IsStopped job b steps results s = subst (IsResult job b steps results s) skipped (replay.each s s_in) in
        elim (conflict-comes_in (nth_access steps) h.0 s h.1 h.3) [
          | inl edge ↦ (h.0, h.2, edge)
          | inr r ↦ (r.0, (let skip : nth_result results r.0 ≡ Skipped = stops h.0 r.0 r.1 (omega (arith, r.2)) h.2 r.3 in rw skip tt), r.4)
        ]
