-- The workers of a run before it, and what a run answers.
use Rattle.std.specs.Prelude.{◌≡◌, ℕ, ◌*◌, List, length, slice_get, Option, Some, None}
use Rattle.equation.specs.declared.job.Job.{Job}
use Rattle.equation.specs.declared.job.Place.{Place}
use Rattle.equation.specs.Meanings.{MeansBadPivot}
use Rattle.step_replays.specs.declared.step.Step.{Step}
use Rattle.step_replays.specs.Replays.{StepResult, IsDone, IsFailure}
use Rattle.task_values.specs.declared.outcome.Failure.{Failure}
use Rattle.block_store.specs.declared.key.BoardKey.{BoardKey}
use Rattle.block_store.specs.declared.seat.Board.{Board}
use Rattle.block_store.specs.Keys.{step_count, IsReplayOf}
use Rattle.block_store.specs.Seats.{key_of, IsKeyOf}
use Rattle.block_store.specs.Sums.{below}
use Rattle.ready_queue.specs.Queues.{steps_of}
use Rattle.dispatcher.specs.declared.crew.Crew.{Crew}
use Rattle.dispatcher.specs.declared.plan.Plan.{Plan}
use Rattle.dispatcher.specs.declared.worker.Worker.{Worker}
use Rattle.dispatcher.specs.SharedRuns.{AreBlockSizes}
use Rattle.dispatcher.specs.Joining.{standing}
use Rattle.dispatcher.specs.Plans.{workers_of_plan}
use Rattle.dispatcher.specs.Workers.{IsNewWorker}

-- the board is one of this plan, for as many workers as run it
abbrev pub IsBoardOf : Plan → Board → Type 0
IsBoardOf p board = IsKeyOf p.job.now p.b p.steps.now (workers_of_plan p) (key_of board)

-- a worker for each of the board's, which have done nothing, with a queue for its steps, the shapes of its blocks, and room for a
-- schedule
pub record IsCrew (board : Board) (c : Crew) : Type 0 where
  pub many : length c.workers.items ≡ (key_of board).workers
  pub each : (k : ℕ) (w : Worker) → slice_get c.workers.items k ≡ Some w → IsNewWorker board c.ready w
  pub all : (worker : ℕ) → standing worker c.workers.items ≡ below (key_of board).workers worker
  pub queue : steps_of c.ready ≡ step_count (key_of board)
  pub sizes : AreBlockSizes (key_of board) c.sizes.items
  pub room : length c.room.items ≡ 2 * step_count (key_of board)

-- no step failed, or the failed step of the least statement met this pivot
abbrev pub IsFailureOf : List Step → List StepResult → Option Failure → Type 0
IsFailureOf steps results None = IsDone steps results
IsFailureOf steps results (Some f) = IsFailure steps results f.statement (record { row = f.row; col = f.col })

abbrev pub IsReplayFailure : BoardKey → Option Failure → Type 0
IsReplayFailure key failed = (results : List StepResult) → IsReplayOf key results → IsFailureOf key.steps.value results failed

-- no statement of the job meets a bad pivot, or this is its first bad pivot
abbrev pub IsFirstBadPivot : Job → Option Failure → Type 0
IsFirstBadPivot job None = (statement : ℕ) (place : Place) → MeansBadPivot job statement place → ⊥
IsFirstBadPivot job (Some f) = MeansBadPivot job f.statement (record { row = f.row; col = f.col })
