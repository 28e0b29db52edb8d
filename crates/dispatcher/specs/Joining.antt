-- Workers that are joined.
use Rattle.std.specs.Prelude.{◌≡◌, ℕ, ◌+◌, ◌*◌, ◌<◌, List, [], ◌∷◌, length, get_or, Option, Some, None}
use Rattle.task_values.specs.declared.outcome.Failure.{Failure}
use Rattle.schedule_core.specs.declared.event.Event.{Event}
use Rattle.schedule_core.specs.HeldSteps.{lesser_of}
use Rattle.block_store.specs.declared.seat.Board.{Board}
use Rattle.block_store.specs.Keys.{step_count}
use Rattle.block_store.specs.Plays.{NotHolds}
use Rattle.block_store.specs.Seats.{key_of, view, IsSeatOf}
use Rattle.block_store.specs.Tallies.{count_in}
use Rattle.ready_queue.specs.declared.queue.Ready.{Ready}
use Rattle.dispatcher.specs.declared.joining.Joined.{Joined}
use Rattle.dispatcher.specs.declared.worker.Worker.{Worker}
use Rattle.dispatcher.specs.Workers.{IsCovered, IsNoted, IsWorker}

-- the first of two events, if there is one
abbrev pub or_event : Option Event → Option Event → Option Event
or_event (Some e) other = Some e
or_event None other = other

-- a log has what was there, or else what another one has
pub record IsJoinedLog (old from new : List (Option Event)) : Type 0 where
  pub long : length new ≡ length old
  pub mixed : (n : ℕ) → n < length old → get_or new n None ≡ or_event (get_or old n None) (get_or from n None)

-- the failure of the lesser statement, of two that may be none
abbrev pub both_noted : Option Failure → Option Failure → Option Failure
both_noted noted None = noted
both_noted noted (Some failure) = Some (lesser_of noted failure)

-- how many of these workers stand for a number
abbrev pub standing : ℕ → List Worker → ℕ
standing k [] = 0
standing k (w ∷ ws) = count_in k (view w.seat).workers + standing k ws

-- workers that were joined hold no block, and keep what their seats did
pub record IsJoined (board : Board) (j : Joined) : Type 0 where
  pub seat : IsSeatOf board j.seat
  pub empty : j.seat.inner.me.1 ≡ []
  pub free : (x : ℕ) → NotHolds (view j.seat) x
  pub long : length j.log.items ≡ 2 * step_count (key_of board)
  pub covered : IsCovered j.log.items (view j.seat).facts
  pub noted : IsNoted (key_of board) (view j.seat).facts j.failed

-- a worker that has seen the end of all steps
pub record HasEnded (board : Board) (ready : Ready) (w : Worker) : Type 0 where
  pub worker : IsWorker board ready w
  pub ended : (view w.seat).clock ≡ 2 * step_count (key_of board)
