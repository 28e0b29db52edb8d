use Rattle.job_generator.proofs.WritableJobs.{generated-writable, generated-read}
use Rattle.job_generator.proofs.laws.generated_jobs_are_read_back.Goals as goal

pub returns-clause-writable : goal.returns-clause-writable
returns-clause-writable c n m seed small = generated-writable n m seed small

pub returns-clause-read : goal.returns-clause-read
returns-clause-read c stop n m seed small modulus = generated-read stop n m seed small modulus
