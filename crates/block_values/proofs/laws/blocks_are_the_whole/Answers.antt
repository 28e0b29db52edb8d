use Rattle.block_values.proofs.AllForms.{HaveValues-whole}
use Rattle.block_values.proofs.laws.blocks_are_the_whole.Goals as goal

pub returns : goal.returns
returns c = HaveValues-whole
