use Rattle.std.proofs.Common.{ap, ◌∙◌}
use Rattle.equation.specs.declared.job.Statement.{Statement}
use Rattle.job_blocks.specs.BlockedJobs.{number_at}
use Rattle.job_blocks.proofs.job_blocks.JobBlocks.work.Goals as goal

pub block-requires : goal.block-requires
block-requires c = rw c.statement.ensures.statement c.requires.block

pub returns : goal.returns
returns c = c.block.ensures ∙ ap (λ (t : Statement). number_at c.args.self.now t.bind.work c.args.i c.args.j) c.statement.ensures.statement
