use Rattle.equation.proofs.AssignedMeanings.{some_meaning}
use Rattle.equation.proofs.laws.assignments_have_a_meaning.Goals as goal

pub returns : goal.returns
returns c = some_meaning
