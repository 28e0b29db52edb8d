use Rattle.textbook_laws.proofs.BlockEquations.{lu_equations, lu_equations_plain}
use Rattle.textbook_laws.proofs.laws.lu_in_two_is_the_textbooks.Goals as goal

pub returns-clause-plain : goal.returns-clause-plain
returns-clause-plain c = lu_equations_plain

pub returns-clause-with_terms : goal.returns-clause-with_terms
returns-clause-with_terms c = lu_equations
