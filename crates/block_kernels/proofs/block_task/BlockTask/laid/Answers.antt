use Rattle.std.proofs.Common.{◌∙◌}
use Rattle.equation.specs.Jobs.{no_grid}
use Rattle.block_kernels.proofs.ReadBlocks.{read_is}
use Rattle.block_kernels.proofs.block_task.BlockTask.laid.Goals as goal

pub laid-requires : goal.laid-requires
laid-requires c = c.requires.stored.inside c.args.at 0 c.requires.at

pub returns-clause-grid : goal.returns-clause-grid
returns-clause-grid c =
    c.laid.ensures.grid
    ∙ read_is c.args.self.now.store c.args.self.now.reads.now c.args.at no_grid c.requires.at (c.requires.stored.inside c.args.at 0 c.requires.at)
