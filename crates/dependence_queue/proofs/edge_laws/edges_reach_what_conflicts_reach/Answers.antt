use Rattle.dependence_queue.specs.Edges.{edges_of}
use Rattle.dependence_queue.specs.Chains.{IsEdgeIn}
use Rattle.dependence_queue.proofs.ChainsOfEdges.{conflict-reached, conflicts-from_edges, edges-from_conflicts, reaches-upward}
use Rattle.dependence_queue.proofs.ListedEdges.{edge_in-upward, listed-conflicts, conflicts-listed}
use Rattle.dependence_queue.proofs.edge_laws.edges_reach_what_conflicts_reach.Goals as goal

pub returns-clause-conflicts : goal.returns-clause-conflicts
returns-clause-conflicts c accesses s t h = conflict-reached accesses s t h

pub returns-clause-chains : goal.returns-clause-chains
returns-clause-chains c accesses s t = (conflicts-from_edges accesses s t, edges-from_conflicts accesses s t)

pub returns-clause-listed : goal.returns-clause-listed
returns-clause-listed c accesses s t first within = (listed-conflicts accesses s t, conflicts-listed accesses s t first within)

pub returns-clause-upward : goal.returns-clause-upward
returns-clause-upward c accesses s t h = reaches-upward (IsEdgeIn (edges_of accesses)) (edge_in-upward accesses) s t h
