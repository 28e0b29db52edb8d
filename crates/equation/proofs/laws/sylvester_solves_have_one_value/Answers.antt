use Rattle.equation.proofs.KernelValues.{one_solved_sylvester}
use Rattle.equation.proofs.laws.sylvester_solves_have_one_value.Goals as goal

pub returns : goal.returns
returns c m negative k l first second a b old x y modulus k_triangular l_triangular =
    one_solved_sylvester m modulus.at_least_two k l k_triangular l_triangular first second a b old x y negative
