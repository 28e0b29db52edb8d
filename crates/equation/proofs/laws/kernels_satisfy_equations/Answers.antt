use Rattle.equation.proofs.KernelStatements.{Satisfies-right_side, Satisfies-solved_left, Satisfies-solved_right, Satisfies-solved_sylvester, Satisfies-factored_lu, Satisfies-factored_ldl}
use Rattle.equation.proofs.laws.kernels_satisfy_equations.Goals as goal

pub returns-clause-assign : goal.returns-clause-assign
returns-clause-assign c m op knowns work r valid has = Satisfies-right_side m op valid knowns work r has

pub returns-clause-left : goal.returns-clause-left
returns-clause-left c m op knowns work r x t valid has = Satisfies-solved_left m op valid knowns work r has x t

pub returns-clause-right : goal.returns-clause-right
returns-clause-right c m op knowns work r x t valid has = Satisfies-solved_right m op valid knowns work r has x t

pub returns-clause-sylvester : goal.returns-clause-sylvester
returns-clause-sylvester c m op knowns work r x t u negative valid has = Satisfies-solved_sylvester m op valid knowns work r has x t u negative

pub returns-clause-lu : goal.returns-clause-lu
returns-clause-lu c m op knowns work r x valid has square = Satisfies-factored_lu m op valid knowns work r has x square

pub returns-clause-ldl : goal.returns-clause-ldl
returns-clause-ldl c m op knowns work r x valid has square = Satisfies-factored_ldl m op valid knowns work r has x square
