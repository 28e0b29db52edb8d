use Rattle.job_blocks.proofs.GatherSteps.{shapes-first, whole-first}
use Rattle.job_blocks.proofs.laws.first_blocks_make_the_matrices.Goals as goal

pub returns-clause-shapes : goal.returns-clause-shapes
returns-clause-shapes c x blocks first = shapes-first x blocks first

pub returns-clause-whole : goal.returns-clause-whole
returns-clause-whole c x blocks is first = whole-first x blocks first is
