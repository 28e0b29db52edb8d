use Rattle.job_text.proofs.AfterTails.{tail_has_tokens}
use Rattle.job_text.proofs.after_laws.second_parts_have_tokens.Goals as goal

pub returns : goal.returns
returns c = tail_has_tokens
