-- By the numbers of a key: a step is skipped exactly where a direct edge goes into it from one that failed or was skipped.
use Rattle.std.proofs.Common.{◌≡◌, ◌≢◌, ℕ, suc, ◌-◌, ◌<◌, true, List, refl, sym, ap, subst, arith}
use Rattle.std.proofs.lemmas.Bool.{false≢true}
use Rattle.dependence_queue.specs.declared.access.Access.{Access}
use Rattle.dependence_queue.specs.Conflicts.{ConflictOn, IsDirectEdge}
use Rattle.step_replays.specs.Replays.{StepResult, IsStop, nth_access, nth_result}
use Rattle.step_replays.specs.Replays as replays
use Rattle.step_replays.proofs.ValueLaws.{skipped-by_edge, edge-of_skipped}
use Rattle.schedule_core.proofs.TurnTests.{same-accesses}
use Rattle.block_store.specs.declared.key.BoardKey.{BoardKey}
use Rattle.block_store.specs.declared.outcome.StepOutcome.TheVariants.{Skipped}
use Rattle.block_store.specs.Keys.{IsStep, edge, outcome_of, outcome_at, is_bad, IsReplayOf, SkipsRight}
use Rattle.block_store.proofs.Edges.{edge-steps, edge-direct, direct-edge}

-- ---- outcomes

skipped-of : (r : StepResult) → outcome_of r ≡ Skipped → r ≡ replays.Skipped
skipped-of replays.Skipped e = refl
skipped-of (replays.Ran value) e = absurd (cc)
skipped-of (replays.Failed place) e = absurd (cc)

bad-from_stop : (r : StepResult) → IsStop r → is_bad (outcome_of r) ≡ true
bad-from_stop (replays.Ran value) h = absurd h
bad-from_stop replays.Skipped h = refl
bad-from_stop (replays.Failed place) h = refl

pub stop-from_bad : (r : StepResult) → is_bad (outcome_of r) ≡ true → IsStop r
stop-from_bad (replays.Ran value) h = absurd (false≢true h)
stop-from_bad replays.Skipped h = tt
stop-from_bad (replays.Failed place) h = tt

-- ---- direct edges by both numberings

module _ (by : ℕ → Access) where
  abbrev from_one : ℕ → Access
  from_one t = by (t - 1)

  edge-down : (s t : ℕ) → 0 < s → IsDirectEdge from_one s t → IsDirectEdge by (s - 1) (t - 1)
  edge-down s t low h = (
    h.0,
    omega (arith, h.1),
    h.2,
    λ r after before. let e : suc r - 1 ≡ r = omega arith in subst (λ k. (by k).write ≢ h.0) e (h.3 (suc r) (omega arith) (omega arith)),
  )

  edge-up : (q t : ℕ) → 0 < t → IsDirectEdge by q (t - 1) → IsDirectEdge from_one (suc q) t
  edge-up q t low h = (
    h.0,
    omega (arith, h.1),
    (let e : suc q - 1 ≡ q = omega arith in subst (λ k. ConflictOn (by k) (by (t - 1)) h.0) (sym e) h.2),
    λ r after before. h.3 (r - 1) (omega arith) (omega arith),
  )

module _ (key : BoardKey) (results : List StepResult) (replay : IsReplayOf key results) where
  came : (t : ℕ) → IsStep key t → outcome_at results t ≡ Skipped → (s : ℕ) × (0 < edge key s t) × (is_bad (outcome_at results s) ≡ true)
  unfolding outcome_at
  came t step e =
      let from = edge-of_skipped key.job.value key.b key.steps.value results replay (t - 1) (omega (arith, step)) (skipped-of (nth_result results (t - 1)) e) in
      let up : IsDirectEdge (from_one (nth_access key.steps.value)) (suc from.0) t = edge-up (nth_access key.steps.value) from.0 t step.0 from.2 in (
        suc from.0,
        direct-edge key (suc from.0) t (omega arith) step.1 (subst (λ f. IsDirectEdge f (suc from.0) t) (sym (same-accesses key.steps.value)) up),
        (let e : suc from.0 - 1 ≡ from.0 = omega arith in subst (λ k. is_bad (outcome_of (nth_result results k)) ≡ true) (sym e) (bad-from_stop (nth_result results from.0) from.1)),
      )

  goes : (t : ℕ) → IsStep key t → (s : ℕ) × (0 < edge key s t) × (is_bad (outcome_at results s) ≡ true) → outcome_at results t ≡ Skipped
  unfolding outcome_at
  goes t step h =
      let low : 0 < h.0 = (edge-steps key h.0 t h.1).0.0 in
      let direct : IsDirectEdge (from_one (nth_access key.steps.value)) h.0 t = subst (λ f. IsDirectEdge f h.0 t) (same-accesses key.steps.value) (edge-direct key h.0 t h.1) in
      ap outcome_of (skipped-by_edge key.job.value key.b key.steps.value results replay (h.0 - 1) (t - 1) (omega (arith, step))
      (stop-from_bad (nth_result results (h.0 - 1)) h.2) (edge-down (nth_access key.steps.value) h.0 t low direct))

  pub skips_right : SkipsRight key results
  skips_right t step = (came t step, goes t step)
