use Rattle.block_values.proofs.AllForms.{each_block}
use Rattle.block_values.proofs.laws.blocks_have_values_where_the_equation_holds.Goals as goal

pub returns : goal.returns
returns c = each_block
