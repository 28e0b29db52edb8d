use Rattle.job_text.proofs.SecondTexts.{printed_before_others}
use Rattle.job_text.proofs.laws.jobs_before_others_are_spelled.Goals as goal

pub returns : goal.returns
returns c = printed_before_others
