use Rattle.job_blocks.proofs.AccessLaws.{reads-below, write-below}
use Rattle.job_blocks.proofs.laws.steps_name_blocks.Goals as goal

pub returns-clause-write : goal.returns-clause-write
returns-clause-write c x s u is has_s task = write-below x s u is has_s task

pub returns-clause-reads : goal.returns-clause-reads
returns-clause-reads c x s u is has_s task = reads-below x s u is has_s task
