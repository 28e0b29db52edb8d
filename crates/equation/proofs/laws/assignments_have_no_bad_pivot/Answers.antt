use Rattle.equation.proofs.Assignments.{no_bad_pivot}
use Rattle.equation.proofs.laws.assignments_have_no_bad_pivot.Goals as goal

pub returns : goal.returns
returns c = no_bad_pivot
