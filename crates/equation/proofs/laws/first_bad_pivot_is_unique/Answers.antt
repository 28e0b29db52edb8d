use Rattle.equation.proofs.FirstPivots.{one_first_bad_pivot}
use Rattle.equation.proofs.laws.first_bad_pivot_is_unique.Goals as goal

pub returns : goal.returns
returns c = one_first_bad_pivot
