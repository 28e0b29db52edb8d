use Rattle.std.proofs.Common.{length, arith}
use Rattle.invariant_family.specs.Splits.{two_parts, three_parts}
use Rattle.invariant_family.proofs.FewTasks.{AreFew-cut, tasks_of-few}
use Rattle.invariant_family.proofs.laws.cuts_have_few_tasks.Goals as goal

pub returns-clause-two : goal.returns-clause-two
returns-clause-two c op split valid = tasks_of-few 2 op (two_parts op split) valid.few_terms (AreFew-cut 2 split (length op.dims) (omega arith))

pub returns-clause-three : goal.returns-clause-three
returns-clause-three c op split valid = tasks_of-few 3 op (three_parts op split) valid.few_terms (AreFew-cut 3 split (length op.dims) (omega arith))
