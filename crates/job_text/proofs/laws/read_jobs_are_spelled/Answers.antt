use Rattle.job_text.proofs.JobTaken.{read_job_spelled}
use Rattle.job_text.proofs.laws.read_jobs_are_spelled.Goals as goal

pub returns : goal.returns
returns c bytes stop job rest read = read_job_spelled stop bytes job rest read
