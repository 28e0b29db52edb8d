use Rattle.dependence_queue.proofs.ListedEdges.{had-direct, direct-has, had-joins, All-kinds, All-steps, sorted}
use Rattle.dependence_queue.proofs.edge_laws.edges_are_the_direct_ones.Goals as goal

pub returns-clause-direct : goal.returns-clause-direct
returns-clause-direct c accesses s t first within = (had-direct accesses s t, direct-has accesses s t first within)

pub returns-clause-kinds : goal.returns-clause-kinds
returns-clause-kinds c accesses = All-kinds accesses

pub returns-clause-steps : goal.returns-clause-steps
returns-clause-steps c accesses = All-steps accesses

pub returns-clause-ordered : goal.returns-clause-ordered
returns-clause-ordered c accesses = sorted accesses

pub returns-clause-test : goal.returns-clause-test
returns-clause-test c accesses s t = had-joins accesses s t
