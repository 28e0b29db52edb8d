use Rattle.std.proofs.Common.{rules}
use Rattle.job_generator.specs.GeneratedJobs.{generated_job}
use Rattle.job_generator.proofs.ValidJobs.{made-valid}
use Rattle.job_generator.proofs.generated.generate.Goals as goal

pub returns-clause-valid : goal.returns-clause-valid
unfolding generated_job
returns-clause-valid c = made-valid c.args.n c.args.m c.args.seed _ c.requires c.new-draws.ensures.range (search rules)
