-- A worker before, between and after its steps.
use Rattle.std.specs.Prelude.{◌≡◌, ℕ, ◌-◌, ◌*◌, ◌≤◌, List, [], length, slice_get, Option, Some, None}
use Rattle.step_replays.specs.Replays.{nth_step}
use Rattle.task_values.specs.declared.outcome.Failure.{Failure}
use Rattle.schedule_core.specs.declared.event.Event.{Event}
use Rattle.schedule_core.specs.HeldSteps.{lesser_of}
use Rattle.block_store.specs.declared.outcome.StepOutcome.{StepOutcome}
use Rattle.block_store.specs.declared.outcome.StepOutcome.TheVariants.{Failed}
use Rattle.block_store.specs.declared.view.Fact.{Fact}
use Rattle.block_store.specs.declared.view.Fact.TheVariants.{Ended}
use Rattle.block_store.specs.declared.key.BoardKey.{BoardKey}
use Rattle.block_store.specs.declared.seat.Board.{Board}
use Rattle.block_store.specs.Keys.{step_count}
use Rattle.block_store.specs.Plays.{NotHolds}
use Rattle.block_store.specs.Seats.{key_of, view, IsSeatOf, IsSameSeat, IsNewSeat}
use Rattle.block_store.specs.Stamps.{HasStamp}
use Rattle.block_store.specs.Tallies.{In}
use Rattle.ready_queue.specs.Queues.{IsPassOf, IsFirstPass}
use Rattle.ready_queue.specs.declared.queue.Ready.{Ready}
use Rattle.dispatcher.specs.declared.worker.Worker.{Worker}
use Rattle.dispatcher.specs.SharedRuns.{AreBuffers}
use Rattle.dispatcher.specs.Telling.{AreHandled, IsTied, KeepsPushes}

-- ---- events

-- the log has each event of the facts at its stamp, and nothing else
pub record IsLogged (log : List (Option Event)) (facts : List Fact) : Type 0 where
  pub sound : (n : ℕ) (e : Event) → slice_get log n ≡ Some (Some e) → HasStamp facts n e
  pub full : (n : ℕ) (e : Event) → HasStamp facts n e → slice_get log n ≡ Some (Some e)

-- the log has events of the facts alone, and one at each of their stamps
pub record IsCovered (log : List (Option Event)) (facts : List Fact) : Type 0 where
  pub sound : (n : ℕ) (e : Event) → slice_get log n ≡ Some (Some e) → HasStamp facts n e
  pub covers : (n : ℕ) (e : Event) → HasStamp facts n e → (d : Event) × (slice_get log n ≡ Some (Some d))

-- ---- failures

-- step t ended at a bad pivot with this place
abbrev pub HasFailed : List Fact → ℕ → ℕ → ℕ → Type 0
HasFailed facts t row col = (n : ℕ) × In (Ended t n (Failed row col)) facts

-- the statement of step t, by its number from 1
abbrev pub statement_at : BoardKey → ℕ → ℕ
statement_at key t = (nth_step key.steps.value (t - 1)).statement

-- of the steps that failed in these facts, one of the least statement
pub record IsLeastFailed (key : BoardKey) (facts : List Fact) (f : Failure) : Type 0 where
  pub step : ℕ
  pub failed : HasFailed facts step f.row f.col
  pub of : statement_at key step ≡ f.statement
  pub least : (t row col : ℕ) → HasFailed facts t row col → f.statement ≤ statement_at key t

abbrev pub IsNoted : BoardKey → List Fact → Option Failure → Type 0
IsNoted key facts None = (t row col : ℕ) → HasFailed facts t row col → ⊥
IsNoted key facts (Some f) = IsLeastFailed key facts f

-- what is noted once step t has ended
abbrev pub noted_after : BoardKey → ℕ → StepOutcome → Option Failure → Option Failure
noted_after key t (Failed row col) noted = Some (lesser_of noted (record { statement = statement_at key t; row = row; col = col }))
noted_after key t _ noted = noted

-- ---- workers

-- a worker between two steps: it holds no block, pushed only what it may, and keeps what its seat did
pub record IsWorker (board : Board) (ready : Ready) (w : Worker) : Type 0 where
  pub seat : IsSeatOf board w.seat
  pub empty : w.seat.inner.me.1 ≡ []
  pub free : (x : ℕ) → NotHolds (view w.seat) x
  pub pass : IsPassOf ready w.pass
  pub tied : IsTied (key_of board) w.pass (view w.seat)
  pub buffers : AreBuffers (key_of board) w.buffers
  pub long : length w.log.items ≡ 2 * step_count (key_of board)
  pub logged : IsLogged w.log.items (view w.seat).facts
  pub noted : IsNoted (key_of board) (view w.seat).facts w.failed

-- a worker that has done nothing
pub record IsNewWorker (board : Board) (ready : Ready) (w : Worker) : Type 0 where
  pub worker : IsWorker board ready w
  pub seat : IsNewSeat board w.seat
  pub pass : IsFirstPass ready w.pass

-- a worker that has seen the end of all steps, and what it was before: it has handled each step that it popped since
pub record HasSeenEnd (board : Board) (ready : Ready) (old new : Worker) : Type 0 where
  pub worker : IsWorker board ready new
  pub same : IsSameSeat old.seat new.seat
  pub pushes : KeepsPushes old.pass new.pass
  pub handled : AreHandled (key_of board) old.pass new.pass (view new.seat)
  pub ended : (view new.seat).clock ≡ 2 * step_count (key_of board)
