-- What a run is asked for.
use Rattle.std.specs.Prelude.{ℕ, ◌≤◌, max, min, length}
use Rattle.equation.specs.Jobs.{IsJob}
use Rattle.step_replays.specs.Fits.{FitsJob}
use Rattle.issue_list.specs.CanonicalSteps.{most_steps}
use Rattle.dispatcher.specs.declared.plan.Plan.{Plan}

-- how many workers a run has at most
abbrev pub most_plan_workers : ℕ
most_plan_workers = 16

-- the steps fit the job under a block size, there aren't too many, and there is a worker, and no more than sixteen
pub record IsPlan (p : Plan) : Type 0 where
  pub job : IsJob p.job.now
  pub size : 1 ≤ p.b
  pub fit : FitsJob p.job.now p.b p.steps.now
  pub few : length p.steps.now ≤ most_steps
  pub some_worker : 1 ≤ p.workers
  pub few_workers : p.workers ≤ most_plan_workers

-- how many workers run a plan: as many as it asks for, though no more than there are steps, and one at least
abbrev pub workers_of_plan : Plan → ℕ
workers_of_plan p = max 1 (min p.workers (length p.steps.now))
