use Rattle.dependence_queue.proofs.EdgesBetween.{conflicts-from, conflict-on}
use Rattle.dependence_queue.proofs.laws.conflicts_are_on_blocks.Goals as goal

pub returns-clause-some : goal.returns-clause-some
returns-clause-some c a b h = conflict-on a b h

pub returns-clause-any : goal.returns-clause-any
returns-clause-any c a b x h = conflicts-from a b x h
