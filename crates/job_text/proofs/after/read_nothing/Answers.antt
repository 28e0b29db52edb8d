use Rattle.job_text.proofs.AfterSteps.{no_sizes, nothing_due, still_due}
use Rattle.job_text.proofs.after.read_nothing.Goals as goal

pub returns-then-is_empty-clause-read : goal.returns-then-is_empty-clause-read
returns-then-is_empty-clause-read c = rw c.new.ensures (nothing_due c.args.line c.args.job.now (c.is_empty.ensures.0 c.if-is_empty.true))

pub returns-then-is_empty-clause-sizes : goal.returns-then-is_empty-clause-sizes
returns-then-is_empty-clause-sizes c = no_sizes c.args.job.now (c.is_empty.ensures.0 c.if-is_empty.true)

pub returns-else-is_empty-clause-read : goal.returns-else-is_empty-clause-read
returns-else-is_empty-clause-read c = still_due c.args.line c.args.job.now (λ none. let empty = c.is_empty.ensures.1 none in cc (empty, c.if-is_empty.false))
