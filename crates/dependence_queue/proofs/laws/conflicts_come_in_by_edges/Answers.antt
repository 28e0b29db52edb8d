use Rattle.dependence_queue.proofs.EdgesBetween.{edge-conflicts, conflict-comes_in}
use Rattle.dependence_queue.proofs.laws.conflicts_come_in_by_edges.Goals as goal

pub returns-clause-conflicts : goal.returns-clause-conflicts
returns-clause-conflicts c accesses s t edge = edge-conflicts accesses s t edge

pub returns-clause-edges : goal.returns-clause-edges
returns-clause-edges c accesses s t before h = conflict-comes_in accesses s t before h
