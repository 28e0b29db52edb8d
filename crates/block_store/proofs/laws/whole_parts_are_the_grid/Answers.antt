use Rattle.block_store.proofs.PartGrids.{whole-part}
use Rattle.block_store.proofs.laws.whole_parts_are_the_grid.Goals as goal

pub returns : goal.returns
returns c g full = whole-part g full
