use Rattle.equation.proofs.KernelValues.{one_solved_left, one_solved_right, one_solved_right_ldl}
use Rattle.equation.proofs.laws.solves_have_one_value.Goals as goal

pub returns-clause-left : goal.returns-clause-left
returns-clause-left c m s k primed a old x y modulus work triangular = one_solved_left m modulus.at_least_two s k work triangular primed a old x y

pub returns-clause-right : goal.returns-clause-right
returns-clause-right c m s k primed a old x y modulus work triangular = one_solved_right m modulus.at_least_two s k work triangular primed a old x y

pub returns-clause-ldl : goal.returns-clause-ldl
returns-clause-ldl c m f old x y modulus units = one_solved_right_ldl m modulus.at_least_two f old x y units
