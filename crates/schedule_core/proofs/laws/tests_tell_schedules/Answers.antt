use Rattle.schedule_core.proofs.ScheduleTests.{schedule-from_test, test-from_schedule, schedule-of_begun, begun-of_schedule}
use Rattle.schedule_core.proofs.laws.tests_tell_schedules.Goals as goal

pub returns-clause-whole : goal.returns-clause-whole
returns-clause-whole c accesses n events = (schedule-from_test accesses n events, test-from_schedule accesses n events)

pub returns-clause-begun : goal.returns-clause-begun
returns-clause-begun c accesses n events = (schedule-of_begun accesses n events, λ h. begun-of_schedule accesses n events h.0 h.1)
