use Rattle.job_blocks.proofs.AccessLaws.{same-block}
use Rattle.job_blocks.proofs.BlockCounts.{number-below}
use Rattle.job_blocks.proofs.NumberedBlocks.{block-with_number}
use Rattle.job_blocks.proofs.laws.numbers_have_one_block.Goals as goal

pub returns-clause-below : goal.returns-clause-below
returns-clause-below c x k i j there = number-below x k i j there

pub returns-clause-some : goal.returns-clause-some
returns-clause-some c x n below = block-with_number x n below

pub returns-clause-one : goal.returns-clause-one
returns-clause-one c x k i j l p q there other e = same-block x k i j l p q there other e
