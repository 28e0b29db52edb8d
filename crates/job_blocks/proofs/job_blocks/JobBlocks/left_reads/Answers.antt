use Rattle.std.proofs.Common.{sym}
use Rattle.job_blocks.proofs.ReadSteps.{left-both, left-ldl, left-left, left-lu}
use Rattle.job_blocks.proofs.job_blocks.JobBlocks.left_reads.Goals as goal

pub left_factor_reads-requires : goal.left_factor_reads-requires
left_factor_reads-requires c =
    let blocks = left-left c.args.self.now c.args.s c.in-Left.ensures.valid c.requires.statement c.args.task c.requires.task c.requires.kind
    c.in-Left.t (sym c.in-Left.ensures.form) in
    record { statement = c.requires.statement; factor = blocks.0; block = blocks.1 }

pub left_factor_reads-requires-in-Sylvester : goal.left_factor_reads-requires-in-Sylvester
left_factor_reads-requires-in-Sylvester c =
    let blocks = left-both c.args.self.now c.args.s c.in-Sylvester.ensures.valid c.requires.statement c.args.task c.requires.task c.requires.kind
    c.in-Sylvester.t _ _ (sym c.in-Sylvester.ensures.form) in
    record { statement = c.requires.statement; factor = blocks.0; block = blocks.1 }

pub work-requires-clause-block : goal.work-requires-clause-block
work-requires-clause-block c =
    (left-lu c.args.self.now c.args.s c.in-Lu.ensures.valid c.requires.statement c.args.task c.requires.task c.requires.kind (sym c.in-Lu.ensures.form)).0

pub work-requires-in-Lu-clause-block : goal.work-requires-in-Lu-clause-block
work-requires-in-Lu-clause-block c =
    (left-lu c.args.self.now c.args.s c.in-Lu.ensures.valid c.requires.statement c.args.task c.requires.task c.requires.kind (sym c.in-Lu.ensures.form)).1

pub work-requires-in-Ldl-clause-block : goal.work-requires-in-Ldl-clause-block
work-requires-in-Ldl-clause-block c =
    (left-ldl c.args.self.now c.args.s c.in-Ldl.ensures.valid c.requires.statement c.args.task c.requires.task c.requires.kind (sym c.in-Ldl.ensures.form)).0

pub work-requires-in-Ldl-2-clause-block : goal.work-requires-in-Ldl-2-clause-block
work-requires-in-Ldl-2-clause-block c =
    (left-ldl c.args.self.now c.args.s c.in-Ldl.ensures.valid c.requires.statement c.args.task c.requires.task c.requires.kind (sym c.in-Ldl.ensures.form)).1

pub work-requires-in-Ldl-3-clause-block : goal.work-requires-in-Ldl-3-clause-block
work-requires-in-Ldl-3-clause-block c =
    (left-ldl c.args.self.now c.args.s c.in-Ldl.ensures.valid c.requires.statement c.args.task c.requires.task c.requires.kind (sym c.in-Ldl.ensures.form)).2
