use Rattle.job_blocks.proofs.AccessLaws.{reads-apart}
use Rattle.job_blocks.proofs.laws.steps_read_other_blocks.Goals as goal

pub returns : goal.returns
returns c x s u is has_s task = reads-apart x s u is has_s task
