use Rattle.job_text.proofs.OneJob.{no_fault}
use Rattle.job_text.proofs.laws.refused_texts_spell_no_job.Goals as goal

pub returns : goal.returns
returns c bytes stop fault job rest refused spells = no_fault bytes stop job rest spells fault refused
