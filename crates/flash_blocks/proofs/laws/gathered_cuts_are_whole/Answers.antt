use Rattle.flash_blocks.proofs.Cuts.{HasShapes-cut, gather_of_cut}
use Rattle.flash_blocks.proofs.laws.gathered_cuts_are_whole.Goals as goal

pub returns-clause-shapes : goal.returns-clause-shapes
returns-clause-shapes c b g size = HasShapes-cut b g

pub returns-clause-whole : goal.returns-clause-whole
returns-clause-whole c b g size full = gather_of_cut b g size full
