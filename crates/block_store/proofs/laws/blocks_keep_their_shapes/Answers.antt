use Rattle.block_store.proofs.Shapes.{keep-shapes}
use Rattle.block_store.proofs.laws.blocks_keep_their_shapes.Goals as goal

pub returns : goal.returns
returns c key valid pos fits = keep-shapes key valid pos fits
