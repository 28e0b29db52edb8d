-- What a list of steps comes to, and what that says of the job.
use Rattle.std.specs.Prelude.{◌≡◌, ℕ, List, length}
use Rattle.equation.specs.declared.job.Job.{Job}
use Rattle.equation.specs.Meanings.{Means, MeansBadPivot}
use Rattle.step_replays.specs.declared.step.Step.{Step}
use Rattle.step_replays.specs.Replays.{StepResult, IsDone, IsFailure, IsReplay, matrices_after}
use Rattle.task_values.specs.declared.outcome.Outcome.{Outcome}
use Rattle.task_values.specs.declared.outcome.Outcome.TheVariants.{Done, BadPivot}

-- ---- the outcome of a replay

-- no step failed, and these matrices are left; or the failed step of the least statement met this pivot
abbrev pub IsOutcomeOf : Job → ℕ → List Step → List StepResult → Outcome → Type 0
IsOutcomeOf job b steps results (Done matrices) = IsDone steps results × (matrices ≡ matrices_after job b steps results (length steps))
IsOutcomeOf job b steps results (BadPivot statement row col) = IsFailure steps results statement (record { row = row; col = col })

abbrev pub IsReplayOutcome : Job → ℕ → List Step → Outcome → Type 0
IsReplayOutcome job b steps outcome = (results : List StepResult) × IsReplay job b steps results × IsOutcomeOf job b steps results outcome

-- ---- the meaning of a job

-- these are the matrices that the job means, or its first bad pivot
abbrev pub IsMeaning : Job → Outcome → Type 0
IsMeaning job (Done matrices) = Means job matrices
IsMeaning job (BadPivot statement row col) = MeansBadPivot job statement (record { row = row; col = col })

-- the job means nothing else
abbrev pub IsOnlyMeaning : Job → Outcome → Type 0
IsOnlyMeaning job outcome = (other : Outcome) → IsMeaning job other → other ≡ outcome
