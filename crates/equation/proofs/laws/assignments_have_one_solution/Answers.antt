use Rattle.equation.proofs.Assignments.{one_solution}
use Rattle.equation.proofs.laws.assignments_have_one_solution.Goals as goal

pub returns : goal.returns
returns c = one_solution
