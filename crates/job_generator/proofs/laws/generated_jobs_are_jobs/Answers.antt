use Rattle.job_generator.proofs.ValidJobs.{generated-valid}
use Rattle.job_generator.proofs.laws.generated_jobs_are_jobs.Goals as goal

pub returns : goal.returns
returns c n m seed small modulus = generated-valid n m seed small modulus
