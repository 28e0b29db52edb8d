use Rattle.task_values.proofs.Meanings.{only-meaning, outcome-means}
use Rattle.dispatcher.proofs.finishing.run_steps.Goals as goal

pub returns-clause-meaning : goal.returns-clause-meaning
returns-clause-meaning g c =
    let p = c.args.plan.now in outcome-means p.job.now p.b p.steps.now c.requires.plan.size c.requires.plan.job c.requires.plan.fit c.in_ok-outcome.outcome c.in_ok-outcome.ensures

pub returns-clause-only : goal.returns-clause-only
returns-clause-only g c =
    let p = c.args.plan.now in
    only-meaning p.job.now c.requires.plan.job c.in_ok-outcome.outcome
    (outcome-means p.job.now p.b p.steps.now c.requires.plan.size c.requires.plan.job c.requires.plan.fit c.in_ok-outcome.outcome c.in_ok-outcome.ensures)
