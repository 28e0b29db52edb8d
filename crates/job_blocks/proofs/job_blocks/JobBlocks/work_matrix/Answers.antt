use Rattle.std.proofs.Common.{ap, ◌∙◌}
use Rattle.equation.specs.declared.job.Statement.{Statement}
use Rattle.equation.specs.Jobs.{nth_grid}
use Rattle.job_blocks.proofs.StatementFacts.{IsSound, sound}
use Rattle.job_blocks.proofs.job_blocks.JobBlocks.work_matrix.Goals as goal

pub matrix-requires : goal.matrix-requires
matrix-requires c =
    let so : IsSound c.args.self.now c.args.s = sound c.args.self.now c.args.s c.statement.ensures.valid c.requires in
    rw c.statement.ensures.statement so.fits.work_in

pub returns : goal.returns
returns c = c.matrix.ensures ∙ ap (λ (t : Statement). nth_grid c.args.self.now.job.matrices t.bind.work) c.statement.ensures.statement
