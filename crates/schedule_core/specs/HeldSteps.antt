-- What is held of a run while its steps begin and end: the blocks as they stand, marks of the steps that ended and failed or were skipped,
-- and the failure of the least statement.
use Rattle.std.specs.Prelude.{◌≡◌, ℕ, suc, ◌<◌, ◌≤◌, List, [], ◌∷◌, ◌++◌, length, map, take, All, IsTrue, Option, None, Some, nat_lt, if◌then◌else◌}
use Rattle.std.specs.List.{range_with_len}
use Rattle.residue_sums.specs.Grids.{Grid, AreResidues}
use Rattle.equation.specs.declared.job.Place.{Place}
use Rattle.equation.specs.Jobs.{nth_grid, no_grid}
use Rattle.step_replays.specs.declared.step.Step.{Step}
use Rattle.step_replays.specs.Replays.{StepResult, Ran, Failed, IsReplay, nth_result, nth_step}
use Rattle.job_blocks.specs.BlockedJobs.{BlockedJob, block_total}
use Rattle.task_values.specs.declared.outcome.Failure.{Failure}
use Rattle.task_values.specs.declared.run.Run.{Run}
use Rattle.task_values.specs.Marks.{AreMarks}
use Rattle.task_values.specs.Progress.{IsFirstStore}
use Rattle.schedule_core.specs.declared.event.Event.{Event}
use Rattle.schedule_core.specs.declared.event.Event.TheVariants.{Finish}
use Rattle.schedule_core.specs.declared.held.Held.{Held}
use Rattle.schedule_core.specs.EventBlocks.{block_at, step_access}
use Rattle.schedule_core.specs.Schedules.{has_event, is_begun, may_come}

-- ---- outcomes so far

-- the outcomes of the n steps that have ended; any other one counts as one that ran
abbrev pub so_far : List StepResult → ℕ → List Event → List StepResult
so_far results n events = map (λ q. if has_event events (Finish (suc q)) then nth_result results q else Ran no_grid) (range_with_len 0 n)

-- of the steps that ended and failed, the one of the least statement
pub record IsLeastFailure (steps : List Step) (results : List StepResult) (events : List Event) (failure : Failure) : Type 0 where
  pub step : ℕ
  pub within : step < length steps
  pub ended : IsTrue (has_event events (Finish (suc step)))
  pub failed : nth_result results step ≡ Failed (record { row = failure.row; col = failure.col })
  pub of : (nth_step steps step).statement ≡ failure.statement
  pub least : (q : ℕ) (place : Place) → q < length steps → IsTrue (has_event events (Finish (suc q))) → nth_result results q ≡ Failed place
      → failure.statement ≤ (nth_step steps q).statement

abbrev pub IsLeastNoted : List Step → List StepResult → List Event → Option Failure → Type 0
IsLeastNoted steps results events None =
    (q : ℕ) (place : Place) → q < length steps → IsTrue (has_event events (Finish (suc q))) → nth_result results q ≡ Failed place → ⊥
IsLeastNoted steps results events (Some failure) = IsLeastFailure steps results events failure

-- the one of the lesser statement
abbrev pub lesser_of : Option Failure → Failure → Failure
lesser_of None later = later
lesser_of (Some earlier) later = if nat_lt later.statement earlier.statement then later else earlier

-- ---- what is held

-- each block as it stands after these events
pub record AreBlocksAt (r : Run) (results : List StepResult) (events : List Event) (blocks : List Grid) : Type 0 where
  pub count : length blocks ≡ block_total (record { job = r.job.now; b = r.b })
  pub residues : All (AreResidues r.job.now.modulus) blocks
  pub each : (x : ℕ) → x < length blocks → nth_grid blocks x ≡ block_at r.job.now r.b r.steps.now results events x

-- by the outcomes of the replay
pub record IsHeldBy (r : Run) (results : List StepResult) (events : List Event) (h : Held) : Type 0 where
  pub blocks : AreBlocksAt r results events h.store.blocks.items
  pub marks : AreMarks r.steps.now (so_far results (length r.steps.now) events) (length r.steps.now) (length h.store.blocks.items)
      h.store.marks.written.items h.store.marks.read.items
  pub noted : IsLeastNoted r.steps.now results events h.store.failure
  pub room : r.b ≤ length h.store.room.items
  pub spare : All (λ (g : Grid). length g.entries ≤ length h.spare.items) h.store.blocks.items

abbrev pub IsHeld : Run → List Event → Held → Type 0
IsHeld r events h = (results : List StepResult) → IsReplay r.job.now r.b r.steps.now results → IsHeldBy r results events h

-- ---- the end of a step

-- the first step after n others may end, and what is held is that of the events before
abbrev pub IsDueAt : Run → ℕ → List Event → Held → Type 0
IsDueAt r n events h = IsTrue (is_begun (step_access r.steps.now) (length r.steps.now) events)
    × IsTrue (may_come (step_access r.steps.now) (length r.steps.now) events (Finish (suc n))) × IsHeld r events h

abbrev pub IsDue : Run → ℕ → Held → Type 0
IsDue r n h = (events : List Event) × IsDueAt r n events h

-- after its end it is that of one event more
abbrev pub IsNextHeld : Run → ℕ → Held → Held → Type 0
IsNextHeld r n old new = (events : List Event) → IsDueAt r n events old → IsHeld r (events ++ Finish (suc n) ∷ []) new

-- the block that a step writes, once it was done: what it leaves, or, where it met a bad pivot, what it found
abbrev pub kept_of : Option Place → Grid → List ℕ → Grid
kept_of None left found = left
kept_of (Some place) left found = record left { entries = take (length left.entries) found }

-- before any event
pub record IsFirstHeld (x : BlockedJob) (h : Held) : Type 0 where
  pub store : IsFirstStore x h.store
  pub spare : All (λ (g : Grid). length g.entries ≤ length h.spare.items) h.store.blocks.items
