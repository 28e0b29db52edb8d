use Rattle.schedule_core.proofs.StepsInOrder.{order-schedule}
use Rattle.schedule_core.proofs.laws.steps_in_order_are_a_schedule.Goals as goal

pub returns : goal.returns
returns c accesses n = order-schedule accesses n
