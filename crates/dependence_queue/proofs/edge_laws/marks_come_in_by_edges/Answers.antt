use Rattle.dependence_queue.proofs.ChainsOfEdges.{marked-by_edge}
use Rattle.dependence_queue.proofs.edge_laws.marks_come_in_by_edges.Goals as goal

pub returns : goal.returns
returns c accesses marked s t passes here h = marked-by_edge accesses marked s t passes here h
