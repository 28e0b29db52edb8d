use Rattle.equation.proofs.OneValue.{one_written}
use Rattle.equation.proofs.laws.updates_have_one_value.Goals as goal

pub returns-clause-products : goal.returns-clause-products
returns-clause-products c m negative s n a b old x y = one_written m s _ old x y

pub returns-clause-ldl : goal.returns-clause-ldl
returns-clause-ldl c m s n a d b old x y = one_written m s _ old x y
