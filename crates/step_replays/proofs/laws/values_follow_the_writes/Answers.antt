use Rattle.step_replays.proofs.ValueLaws.{value-zero, value-before, value-next}
use Rattle.step_replays.proofs.laws.values_follow_the_writes.Goals as goal

pub returns-clause-first : goal.returns-clause-first
returns-clause-first c job b steps results x = value-zero job b steps results x

pub returns-clause-found : goal.returns-clause-found
returns-clause-found c job b steps results s x le = value-before job b steps results s x le

pub returns-clause-next : goal.returns-clause-next
returns-clause-next c job b steps results s below = value-next job b steps results s below
