use Rattle.flash_blocks.proofs.Cuts.{cut_of_gathered}
use Rattle.flash_blocks.proofs.laws.cut_of_gathered.Goals as goal

pub returns : goal.returns
returns c f size shapes = cut_of_gathered f size shapes
