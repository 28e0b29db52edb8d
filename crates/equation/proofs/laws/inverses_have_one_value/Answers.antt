use Rattle.equation.specs.Kernels.{combined}
use Rattle.equation.proofs.KernelValues.{one_inverted}
use Rattle.equation.proofs.laws.inverses_have_one_value.Goals as goal

pub returns-clause-pivots : goal.returns-clause-pivots
returns-clause-pivots c m t old x y = one_inverted m (λ i j. t j j) old x y

pub returns-clause-pairs : goal.returns-clause-pairs
returns-clause-pairs c m negative t u old x y = one_inverted m (combined m negative (λ a b. t a a) (λ a b. u b b)) old x y
