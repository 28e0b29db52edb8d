use Rattle.equation.proofs.FirstPivots.{no_unit_is_bad}
use Rattle.equation.proofs.laws.unit_factors_have_no_bad_pivot.Goals as goal

pub returns : goal.returns
returns c = no_unit_is_bad
