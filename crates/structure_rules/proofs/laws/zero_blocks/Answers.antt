use Rattle.structure_rules.proofs.Blocks.{view-zero_block}
use Rattle.structure_rules.proofs.laws.zero_blocks.Goals as goal

pub returns-clause-zeros : goal.returns-clause-zeros
returns-clause-zeros c s a b r k h = view-zero_block s a b r k h
