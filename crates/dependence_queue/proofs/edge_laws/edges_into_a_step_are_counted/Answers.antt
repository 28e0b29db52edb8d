use Rattle.std.proofs.Common.{arith}
use Rattle.dependence_queue.proofs.ListedEdges.{counted, few_into, conflict-counted}
use Rattle.dependence_queue.proofs.edge_laws.edges_into_a_step_are_counted.Goals as goal

pub returns-clause-sum : goal.returns-clause-sum
returns-clause-sum c accesses t = counted accesses t

pub returns-clause-few : goal.returns-clause-few
returns-clause-few c accesses t = few_into accesses t

pub returns-clause-none : goal.returns-clause-none
returns-clause-none c accesses s t first within none h = omega (arith, conflict-counted accesses s t first within h)
