use Rattle.job_text.proofs.JobAgain.{spelled_job_is_read}
use Rattle.job_text.proofs.laws.spelled_jobs_are_read.Goals as goal

pub returns : goal.returns
returns c = spelled_job_is_read
