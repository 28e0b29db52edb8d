use Rattle.std.proofs.Common.{ℕ, ap, ◌∙◌, subst}
use Rattle.equation.specs.declared.job.Job.{Job}
use Rattle.job_generator.specs.GeneratedJobs.{generated_job}
use Rattle.flame_top.specs.SelfRun.{DueSummary}
use Rattle.flame_top.proofs.selfrun.selfrun_output.Goals as goal

pub returns : goal.returns
returns g c =
    let output = c.in_ok-job_output in
    subst (λ (job : Job). DueSummary c.args.words job output.field-0.status output.field-0.text.items)
    (c.in_ok-job.ensures.job ∙ ap (λ (m : ℕ). generated_job c.args.words.n m c.args.words.seed) c.modulus_of.ensures) output.ensures
