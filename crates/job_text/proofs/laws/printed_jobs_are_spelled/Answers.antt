use Rattle.job_text.proofs.PrintedJobs.{printed_job_is_spelled}
use Rattle.job_text.proofs.laws.printed_jobs_are_spelled.Goals as goal

pub returns : goal.returns
returns c = printed_job_is_spelled
