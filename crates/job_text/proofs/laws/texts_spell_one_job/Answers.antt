use Rattle.job_text.proofs.OneJob.{one_job}
use Rattle.job_text.proofs.laws.texts_spell_one_job.Goals as goal

pub returns : goal.returns
returns c bytes stop job other rest end spells spelled = one_job bytes stop job rest spells other end spelled
