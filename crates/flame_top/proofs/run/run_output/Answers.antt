use Rattle.std.proofs.Common.{inl, inr}
use Rattle.flame_top.proofs.run.run_output.Goals as goal

pub returns-in_ok-finished_output-in-Run : goal.returns-in_ok-finished_output-in-Run
returns-in_ok-finished_output-in-Run g c =
    let plan = rw c.in-Run.is at c.in_ok-job.ensures in inl (c.in-Run.job, plan.0, plan.1, inr (plan.2, c.in_ok-finished_output-in-Run.ensures))
