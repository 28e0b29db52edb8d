use Rattle.equation.proofs.AssignedGrids.{a_solution}
use Rattle.equation.proofs.laws.some_assignment_is_satisfied.Goals as goal

pub returns : goal.returns
returns c = a_solution
