-- In which order the steps of a run begin and end.
use Rattle.std.specs.Prelude.{◌≡◌, ℕ, List, length}
use Rattle.step_replays.specs.declared.step.Step.{Step}
use Rattle.schedule_core.specs.declared.event.Event.{Event}
use Rattle.schedule_core.specs.EventBlocks.{step_access}
use Rattle.schedule_core.specs.Schedules.{IsSchedule, in_order}

-- the events of so many workers are a schedule of the steps; one worker begins and ends each step in their order
pub record AreEventsOf (workers : ℕ) (steps : List Step) (events : List Event) : Type 0 where
  pub schedule : IsSchedule (step_access steps) (length steps) events
  pub alone : workers ≡ 1 → events ≡ in_order (length steps)
