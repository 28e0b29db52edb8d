use Rattle.block_expr.proofs.ExpandedEquations.{left_is, right_is, sides_agree}
use Rattle.block_expr.proofs.laws.expanded_equations_are_the_whole.Goals as goal

pub returns-clause-blocks : goal.returns-clause-blocks
returns-clause-blocks c = sides_agree

pub returns-clause-left : goal.returns-clause-left
returns-clause-left c = left_is

pub returns-clause-right : goal.returns-clause-right
returns-clause-right c = right_is
