use Rattle.step_replays.proofs.ValueLaws.{skipped-by_edge, edge-of_skipped}
use Rattle.step_replays.proofs.laws.steps_are_skipped_by_edges.Goals as goal

pub returns-clause-skips : goal.returns-clause-skips
returns-clause-skips c job b steps results replay q s below stop edge = skipped-by_edge job b steps results replay q s below stop edge

pub returns-clause-edge : goal.returns-clause-edge
returns-clause-edge c job b steps results replay s below skipped = edge-of_skipped job b steps results replay s below skipped
