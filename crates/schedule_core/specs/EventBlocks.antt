-- The blocks of a job while its steps begin and end.
use Rattle.std.specs.Prelude.{ℕ, ◌-◌, List, length}
use Rattle.residue_sums.specs.Grids.{Grid}
use Rattle.equation.specs.declared.job.Job.{Job}
use Rattle.dependence_queue.specs.declared.access.Access.{Access}
use Rattle.step_replays.specs.declared.step.Step.{Step}
use Rattle.step_replays.specs.Replays.{StepResult, nth_access, value}
use Rattle.schedule_core.specs.declared.event.Event.{Event}
use Rattle.schedule_core.specs.Schedules.{ended_writes}

-- the accesses of steps, which are numbered from 1
abbrev pub step_access : List Step → ℕ → Access
step_access steps t = nth_access steps (t - 1)

-- block x after these events: as it is after so many of its writes as have ended
abbrev pub block_at : Job → ℕ → List Step → List StepResult → List Event → ℕ → Grid
block_at job b steps results events x = value job b steps results x (ended_writes (step_access steps) events x (length steps))
