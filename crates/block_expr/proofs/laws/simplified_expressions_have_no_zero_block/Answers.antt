use Rattle.block_expr.proofs.NoZeroBlocks.{none_left}
use Rattle.block_expr.proofs.laws.simplified_expressions_have_no_zero_block.Goals as goal

pub returns : goal.returns
returns c = none_left
