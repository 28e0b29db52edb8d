-- Steps of a job of which some have begun and some ended.
use Rattle.std.specs.Prelude.{ℕ, List}
use Rattle.equation.specs.declared.job.Job.{Job}
use Rattle.step_replays.specs.declared.step.Step.{Step}
use Rattle.schedule_core.specs.declared.event.Event.{Event}

-- the steps of a job under block size b, and the events so far
pub record Course : Type 0 where
  pub job : Job
  pub b : ℕ
  pub steps : List Step
  pub events : List Event
