use Rattle.flash_blocks.proofs.Places.{flash_block-with_block}
use Rattle.flash_blocks.proofs.laws.one_block_is_written.Goals as goal

pub returns-clause-others : goal.returns-clause-others
returns-clause-others c f i j k l g written read other = flash_block-with_block f i j k l g written read other
