use Rattle.schedule_core.proofs.EdgeCounts.{edges-into, edges-pairs, edges-few}
use Rattle.schedule_core.proofs.laws.direct_edges_are_counted.Goals as goal

pub returns-clause-into : goal.returns-clause-into
returns-clause-into c accesses = edges-into accesses

pub returns-clause-pairs : goal.returns-clause-pairs
returns-clause-pairs c accesses = edges-pairs accesses

pub returns-clause-few : goal.returns-clause-few
returns-clause-few c accesses = edges-few accesses
