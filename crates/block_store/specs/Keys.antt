-- What the rule of the board knows of a run: its steps, the direct edges between them, and their outcomes in the replay.
use Rattle.std.specs.Prelude.{◌≡◌, ◌↔◌, ℕ, ◌+◌, ◌-◌, ◌<◌, ◌≤◌, Bool, true, false, List, length}
use Rattle.residue_sums.specs.Sums.{sum_below}
use Rattle.dependence_queue.specs.declared.access.Access.{Access}
use Rattle.dependence_queue.specs.Edges.{edge_number}
use Rattle.step_replays.specs.Replays.{StepResult, IsReplay, nth_result}
use Rattle.step_replays.specs.Replays as replays
use Rattle.schedule_core.specs.StepAccesses.{accesses_of}
use Rattle.block_store.specs.declared.key.BoardKey.{BoardKey}
use Rattle.block_store.specs.declared.outcome.StepOutcome.{StepOutcome}
use Rattle.block_store.specs.declared.outcome.StepOutcome.TheVariants.{Ran, Skipped, Failed}

-- ---- steps and edges

abbrev pub step_count : BoardKey → ℕ
step_count key = length key.steps.value

-- what the steps use
abbrev pub accesses : BoardKey → List Access
accesses key = accesses_of key.steps.value

-- steps are numbered from 1
abbrev pub IsStep : BoardKey → ℕ → Type 0
IsStep key t = (0 < t) × (t ≤ step_count key)

-- 1 where a direct edge goes from step s to step t, else 0
unfoldable pub edge : BoardKey → ℕ → ℕ → ℕ
edge key s t = edge_number (accesses key) s t

-- how many direct edges go into a step
abbrev pub preds : BoardKey → ℕ → ℕ
preds key t = sum_below (λ s. edge key s t) (step_count key + 1)

-- ---- outcomes

-- these are what becomes of the steps, gone through in their order
abbrev pub IsReplayOf : BoardKey → List StepResult → Type 0
IsReplayOf key results = IsReplay key.job.value key.b key.steps.value results

abbrev pub outcome_of : StepResult → StepOutcome
outcome_of (replays.Ran value) = Ran
outcome_of replays.Skipped = Skipped
outcome_of (replays.Failed place) = Failed place.row place.col

-- what becomes of step t by these results
unfoldable pub outcome_at : List StepResult → ℕ → StepOutcome
outcome_at results t = outcome_of (nth_result results (t - 1))

-- step t has this outcome in the replay of the steps
abbrev pub IsOutcome : BoardKey → ℕ → StepOutcome → Type 0
IsOutcome key t outcome = (results : List StepResult) → IsReplayOf key results → outcome ≡ outcome_at results t

-- the step failed or was skipped
abbrev pub is_bad : StepOutcome → Bool
is_bad Ran = false
is_bad Skipped = true
is_bad (Failed row col) = true

-- 1 for a skipped step, else 0
abbrev pub skip_of : StepOutcome → ℕ
skip_of Ran = 0
skip_of Skipped = 1
skip_of (Failed row col) = 0

-- a step is skipped exactly where a direct edge goes into it from one that failed or was skipped
abbrev pub SkipsRight : BoardKey → List StepResult → Type 0
SkipsRight key results = (t : ℕ) → IsStep key t
    → (outcome_at results t ≡ Skipped) ↔ ((s : ℕ) × (0 < edge key s t) × (is_bad (outcome_at results s) ≡ true))
