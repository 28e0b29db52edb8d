use Rattle.textbook_laws.proofs.BlockEquations.{ldl_equations, ldl_equations_plain}
use Rattle.textbook_laws.proofs.laws.ldl_in_two_is_the_textbooks.Goals as goal

pub returns-clause-plain : goal.returns-clause-plain
returns-clause-plain c = ldl_equations_plain

pub returns-clause-with_terms : goal.returns-clause-with_terms
returns-clause-with_terms c = ldl_equations
