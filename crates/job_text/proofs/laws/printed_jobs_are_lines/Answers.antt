use Rattle.job_text.proofs.WrittenLines.{job_text-lines}
use Rattle.job_text.proofs.laws.printed_jobs_are_lines.Goals as goal

pub returns : goal.returns
returns c = job_text-lines
