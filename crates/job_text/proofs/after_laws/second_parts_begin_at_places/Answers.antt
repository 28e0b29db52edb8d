use Rattle.job_text.proofs.AfterPlaces.{second_part_place}
use Rattle.job_text.proofs.after_laws.second_parts_begin_at_places.Goals as goal

pub returns : goal.returns
returns c = λ bytes stop job rest is. second_part_place bytes stop rest is.second
