use Rattle.schedule_core.proofs.ScheduleTests.{is_begun-next}
use Rattle.schedule_core.proofs.laws.beginnings_grow_by_events.Goals as goal

pub returns-clause-next : goal.returns-clause-next
returns-clause-next c accesses n events e = is_begun-next accesses n events e
