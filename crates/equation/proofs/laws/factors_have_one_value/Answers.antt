use Rattle.equation.proofs.KernelValues.{one_factored_lu, one_factored_ldl}
use Rattle.equation.proofs.laws.factors_have_one_value.Goals as goal

pub returns-clause-lu : goal.returns-clause-lu
returns-clause-lu c m old x y modulus square = one_factored_lu m modulus.at_least_two old x y square

pub returns-clause-ldl : goal.returns-clause-ldl
returns-clause-ldl c m old x y modulus square = one_factored_ldl m modulus.at_least_two old x y square
