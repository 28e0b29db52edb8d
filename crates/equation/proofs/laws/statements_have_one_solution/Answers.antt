use Rattle.equation.proofs.OneSolution.{at_most_one, at_least_one}
use Rattle.equation.proofs.laws.statements_have_one_solution.Goals as goal

pub returns-clause-one : goal.returns-clause-one
returns-clause-one c m op grids bind x y modulus valid fits residues none = at_most_one m op grids bind modulus valid fits residues none x y

pub returns-clause-some : goal.returns-clause-some
returns-clause-some c = at_least_one
