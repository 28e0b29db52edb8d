use Rattle.structure_rules.proofs.Blocks.{view-other_block}
use Rattle.structure_rules.proofs.laws.blocks_of_view.Goals as goal

pub returns-clause-others : goal.returns-clause-others
returns-clause-others c s a b r k h e = view-other_block s a b r k h e
