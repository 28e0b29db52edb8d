use Rattle.std.proofs.Common.{sym}
use Rattle.job_blocks.proofs.ReadSteps.{solve-both, solve-left, solve-lesser, solve-right}
use Rattle.job_blocks.proofs.job_blocks.JobBlocks.solve_reads.Goals as goal

pub factor-requires-clause-block : goal.factor-requires-clause-block
factor-requires-clause-block c =
    solve-left c.args.self.now c.args.s c.in-Left.ensures.valid c.requires.statement c.args.task c.requires.task c.in-Left.t (sym c.in-Left.ensures.form)

pub factor-requires-in-Right-clause-block : goal.factor-requires-in-Right-clause-block
factor-requires-in-Right-clause-block c =
    solve-right c.args.self.now c.args.s c.in-Right.ensures.valid c.requires.statement c.args.task c.requires.task c.in-Right.u (sym c.in-Right.ensures.form)

pub factor-requires-in-Sylvester-clause-block : goal.factor-requires-in-Sylvester-clause-block
factor-requires-in-Sylvester-clause-block c =
    (solve-both c.args.self.now c.args.s c.in-Sylvester.ensures.valid c.requires.statement c.args.task c.requires.task
    c.in-Sylvester.t c.in-Sylvester.u _ (sym c.in-Sylvester.ensures.form)).0

pub factor-requires-in-Sylvester-2-clause-block : goal.factor-requires-in-Sylvester-2-clause-block
factor-requires-in-Sylvester-2-clause-block c =
    (solve-both c.args.self.now c.args.s c.in-Sylvester.ensures.valid c.requires.statement c.args.task c.requires.task
    c.in-Sylvester.t c.in-Sylvester.u _ (sym c.in-Sylvester.ensures.form)).1

pub lesser_reads-requires : goal.lesser_reads-requires
lesser_reads-requires c = record {
  statement = c.requires.statement;
  block = solve-lesser c.args.self.now c.args.s c.in-Lu.ensures.valid c.requires.statement c.args.task c.requires.task;
}

pub lesser_reads-requires-in-Ldl : goal.lesser_reads-requires-in-Ldl
lesser_reads-requires-in-Ldl c = record {
  statement = c.requires.statement;
  block = solve-lesser c.args.self.now c.args.s c.in-Ldl.ensures.valid c.requires.statement c.args.task c.requires.task;
}
