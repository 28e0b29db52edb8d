use Rattle.std.proofs.Common.{get_or, subst, sym, ◌∙◌}
use Rattle.residue_sums.specs.Grids.{AreResidues}
use Rattle.equation.specs.Jobs.{no_grid}
use Rattle.block_kernels.proofs.ReadBlocks.{read_is, read_holds}
use Rattle.block_kernels.proofs.block_task.BlockTask.read.Goals as goal

pub block-requires : goal.block-requires
block-requires c = c.requires.stored.inside c.args.at 0 c.requires.at

pub returns-clause-grid : goal.returns-clause-grid
returns-clause-grid c =
    c.block.ensures
    ∙ read_is c.args.self.now.store c.args.self.now.reads.now c.args.at no_grid c.requires.at (c.requires.stored.inside c.args.at 0 c.requires.at)

pub returns-clause-residues : goal.returns-clause-residues
returns-clause-residues c =
    subst (AreResidues c.args.self.now.m) (sym c.block.ensures)
    (read_holds c.args.self.now.m c.args.self.now.store (get_or c.args.self.now.reads.now c.args.at 0) no_grid
    (c.requires.stored.inside c.args.at 0 c.requires.at) c.requires.stored.residues)
