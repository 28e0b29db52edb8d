use Rattle.job_blocks.proofs.ReadSteps.{has-task}
use Rattle.job_blocks.proofs.job_blocks.JobBlocks.reads.Goals as goal

pub term_reads-requires-clause-task : goal.term_reads-requires-clause-task
term_reads-requires-clause-task c = has-task c.args.self.now c.args.s c.args.task c.requires.task (λ e. absurd (cc (e, c.in-Term.is)))

pub left_reads-requires-clause-task : goal.left_reads-requires-clause-task
left_reads-requires-clause-task c = has-task c.args.self.now c.args.s c.args.task c.requires.task (λ e. absurd (cc (e, c.in-Left.is)))

pub right_reads-requires-clause-task : goal.right_reads-requires-clause-task
right_reads-requires-clause-task c = has-task c.args.self.now c.args.s c.args.task c.requires.task (λ e. absurd (cc (e, c.in-Right.is)))

pub solve_reads-requires-clause-task : goal.solve_reads-requires-clause-task
solve_reads-requires-clause-task c = has-task c.args.self.now c.args.s c.args.task c.requires.task (λ e. absurd (cc (e, c.in-Solve.is)))
