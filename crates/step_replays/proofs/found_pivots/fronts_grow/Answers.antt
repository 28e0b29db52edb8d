use Rattle.step_replays.proofs.FrontLaws.{front-first, front-whole, block-kept, stopped-kept, stopped-back, front-next}
use Rattle.step_replays.proofs.found_pivots.fronts_grow.Goals as goal

pub returns-clause-first : goal.returns-clause-first
returns-clause-first c job b steps = front-first job b steps

pub returns-clause-next : goal.returns-clause-next
returns-clause-next c job b steps results n r front below outcome = front-next job b steps results r n front below outcome

pub returns-clause-kept : goal.returns-clause-kept
returns-clause-kept c job b steps results r s x le = block-kept job b steps results r s x le

pub returns-clause-stops : goal.returns-clause-stops
returns-clause-stops c job b steps results r s le = (stopped-back job b steps results r s le, stopped-kept job b steps results r s le)

pub returns-clause-whole : goal.returns-clause-whole
returns-clause-whole c job b steps results front = front-whole job b steps results front
