-- What is asked of a closure that goes through the steps of a plan.
use Rattle.std.specs.Prelude.{◌≡◌, ℕ, List, Result, IfOk}
use Rattle.std.specs.Fn.{FnOnceReturnsAt, FnOnceTakesAt}
use Rattle.std.specs.declared.alloc.AllocError.{AllocError}
use denote.Param.Members.{Once}
use denote.Ref.{Bor}
use Rattle.equation.specs.declared.job.Job.{Job}
use Rattle.step_replays.specs.declared.step.Step.{Step}
use Rattle.task_values.specs.Outcomes.{IsMeaning}
use Rattle.dispatcher.specs.declared.finishing.Finished.{Finished}
use Rattle.dispatcher.specs.declared.plan.Plan.{Plan}
use Rattle.dispatcher.specs.Plans.{IsPlan}
use Rattle.flame_top.specs.Events.{AreEventsOf}

-- the events of the steps by so many workers, and what the job means
pub record IsFinished (job : Job) (steps : List Step) (workers : ℕ) (finished : Finished) : Type 0 where
  pub events : AreEventsOf workers steps finished.schedule
  pub meaning : IsMeaning job finished.outcome

-- the closure may be called for each plan of so many workers, and what it answers is finished
pub record Goes {F : Type 0} (calls : Once F (Bor Plan × Unit {0}) (Result Finished AllocError)) (go : F) (workers : ℕ) : Type 0 where
  pub takes : (plan : Plan) → IsPlan plan → plan.workers ≡ workers → FnOnceTakesAt calls go plan
  pub gives : (plan : Plan) (result : Result Finished AllocError) → IsPlan plan → plan.workers ≡ workers
      → FnOnceReturnsAt calls go plan result → IfOk result (IsFinished plan.job.now plan.steps.now plan.workers)
