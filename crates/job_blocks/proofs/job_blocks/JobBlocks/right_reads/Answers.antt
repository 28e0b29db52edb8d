use Rattle.std.proofs.Common.{sym}
use Rattle.job_blocks.proofs.ReadSteps.{right-both, right-right}
use Rattle.job_blocks.proofs.job_blocks.JobBlocks.right_reads.Goals as goal

pub right_factor_reads-requires : goal.right_factor_reads-requires
right_factor_reads-requires c =
    let blocks = right-right c.args.self.now c.args.s c.in-Right.ensures.valid c.requires.statement c.args.task c.requires.task c.requires.kind
    c.in-Right.u (sym c.in-Right.ensures.form) in
    record { statement = c.requires.statement; block = blocks.0; factor = blocks.1 }

pub right_factor_reads-requires-in-Sylvester : goal.right_factor_reads-requires-in-Sylvester
right_factor_reads-requires-in-Sylvester c =
    let blocks = right-both c.args.self.now c.args.s c.in-Sylvester.ensures.valid c.requires.statement c.args.task c.requires.task c.requires.kind
    _ c.in-Sylvester.u _ (sym c.in-Sylvester.ensures.form) in
    record { statement = c.requires.statement; block = blocks.0; factor = blocks.1 }
