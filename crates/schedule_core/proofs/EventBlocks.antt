-- The blocks of a job while its steps begin and end are the values of the replay.
use Rattle.std.proofs.Common.{◌≡◌, ℕ, zero, suc, ◌-◌, ◌<◌, ◌≤◌, inl, inr, true, false, cond, List, [], ◌∷◌, ◌++◌, length, refl, sym, ◌∙◌, ap, arith}
use Rattle.std.specs.Prelude.{◌==◌}
use Rattle.std.proofs.lemmas.Bool.{cases_Bool, eqb-true, eq-eqb, and_parts, or_right}
use Rattle.equation.specs.declared.job.Job.{Job}
use Rattle.dependence_queue.specs.Conflicts.{has_number}
use Rattle.step_replays.specs.declared.step.Step.{Step}
use Rattle.step_replays.specs.Accesses.{first_block}
use Rattle.step_replays.specs.Replays.{StepResult, block_after, nth_access, nth_result, value, writes_before, written}
use Rattle.step_replays.proofs.ValueLaws.{value-zero, value-before, value-next}
use Rattle.schedule_core.specs.declared.event.Event.{Event}
use Rattle.schedule_core.specs.declared.event.Event.TheVariants.{Start, Finish}
use Rattle.schedule_core.specs.EventBlocks.{block_at, step_access}
use Rattle.schedule_core.specs.Schedules.{has_event, is_begun, is_schedule, all_over, uses_block, writes_upto, ended_writes}
use Rattle.schedule_core.proofs.RunningSteps.{running-writes}
use Rattle.schedule_core.proofs.EndedWrites.{ended-none, ended-start, ended-finish, ended-finish_other, ended-all}

module _ (job : Job) (b : ℕ) (steps : List Step) (results : List StepResult) where
  -- writes by the number of a step from 1, and by its place from 0
  writes-before : (x k : ℕ) → writes_upto (step_access steps) x k ≡ writes_before job b steps results k x
  writes-before x zero = refl
  writes-before x (suc k) =
      let place : suc k - 1 ≡ k = omega arith in
      rw place (elim (cases_Bool ((nth_access steps k).write == x)) [
        | inl writes ↦ rw writes (omega (arith, writes-before x k))
        | inr other ↦ rw other (omega (arith, writes-before x k))
      ])

  value-of : (x k v : ℕ) → k ≤ length steps → v ≡ writes_upto (step_access steps) x k → value job b steps results x v ≡ block_after job b steps results k x
  value-of x k v within e = ap (λ (u : ℕ). value job b steps results x u) (e ∙ writes-before x k) ∙ value-before job b steps results k x within

  pub block-first : (x : ℕ) → block_at job b steps results [] x ≡ first_block job b x
  block-first x = ap (λ (u : ℕ). value job b steps results x u) (ended-none (step_access steps) x (length steps)) ∙ value-zero job b steps results x

  pub block-start : (events : List Event) (t x : ℕ) → block_at job b steps results (events ++ Start t ∷ []) x ≡ block_at job b steps results events x
  block-start events t x = ap (λ (u : ℕ). value job b steps results x u) (ended-start (step_access steps) events t x (length steps))

  module _ (events : List Event) (begun : is_begun (step_access steps) (length steps) events ≡ true) (t : ℕ) (began : has_event events (Start t) ≡ true)
      (runs : has_event events (Finish t) ≡ false) where
    pub block-found : (x : ℕ) → t - 1 ≤ length steps → uses_block (step_access steps t) x ≡ true
        → block_at job b steps results events x ≡ block_after job b steps results (t - 1) x
    block-found x within uses = value-of x (t - 1) (ended_writes (step_access steps) events x (length steps)) within
        (running-writes (step_access steps) (length steps) events begun t x began runs uses)

    -- the block that the step writes
    block-written : 0 < t → t ≤ length steps → block_at job b steps results (events ++ Finish t ∷ []) (step_access steps t).write
        ≡ written (nth_result results (t - 1)) (block_at job b steps results events (step_access steps t).write)
    block-written first within =
        let x : ℕ = (step_access steps t).write in
        let ended : ℕ = ended_writes (step_access steps) events x (length steps) in
        let uses : uses_block (step_access steps t) x ≡ true = or_right (has_number (step_access steps t).reads x) (x == x) (eq-eqb x x refl) in
        let before : ended ≡ writes_before job b steps results (t - 1) x
        = running-writes (step_access steps) (length steps) events begun t x began runs uses ∙ writes-before x (t - 1) in
        ap (λ (u : ℕ). value job b steps results x u)
        (ended-finish (step_access steps) events t x (length steps) first within (eq-eqb x x refl) runs ∙ ap (λ (u : ℕ). suc u) before)
        ∙ (value-next job b steps results (t - 1) (omega arith)
        ∙ ap (λ (u : ℕ). written (nth_result results (t - 1)) (value job b steps results x u)) (sym before))

    pub block-finish : (x : ℕ) → 0 < t → t ≤ length steps → block_at job b steps results (events ++ Finish t ∷ []) x
        ≡ cond ((step_access steps t).write == x) (written (nth_result results (t - 1)) (block_at job b steps results events x)) (block_at job b steps results events x)
    block-finish x first within = elim (cases_Bool ((step_access steps t).write == x)) [
      | inl writes ↦ (let e = eqb-true (step_access steps t).write x writes in rw writes
          (ap (λ (y : ℕ). block_at job b steps results (events ++ Finish t ∷ []) y) (sym e) ∙ (block-written first within
          ∙ ap (λ (y : ℕ). written (nth_result results (t - 1)) (block_at job b steps results events y)) e)))
      | inr other ↦ rw other (ap (λ (u : ℕ). value job b steps results x u) (ended-finish_other (step_access steps) events t x (length steps) other))
    ]

  pub block-whole : (events : List Event) → is_schedule (step_access steps) (length steps) events ≡ true → (x : ℕ)
      → block_at job b steps results events x ≡ block_after job b steps results (length steps) x
  block-whole events schedule x =
      let p = and_parts (is_begun (step_access steps) (length steps) events) (all_over events (length steps)) schedule in
      value-of x (length steps) (ended_writes (step_access steps) events x (length steps)) (omega arith)
      (ended-all (step_access steps) events (length steps) x (length steps) (omega arith) p.1)
