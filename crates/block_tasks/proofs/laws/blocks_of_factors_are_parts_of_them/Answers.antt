use Rattle.block_tasks.proofs.BlockViews.{factor_block-is}
use Rattle.block_tasks.proofs.laws.blocks_of_factors_are_parts_of_them.Goals as goal

pub returns : goal.returns
returns c b op knowns blocks f are square i k r d inside row col = factor_block-is op b knowns blocks are f square i k r d inside row col
