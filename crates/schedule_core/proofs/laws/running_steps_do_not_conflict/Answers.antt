use Rattle.schedule_core.proofs.RunningSteps.{conflict-ended, running-writes}
use Rattle.schedule_core.proofs.laws.running_steps_do_not_conflict.Goals as goal

pub returns-clause-ended : goal.returns-clause-ended
returns-clause-ended c accesses n events begun s t first conflict began = conflict-ended accesses n events begun s t first conflict began

pub returns-clause-writes : goal.returns-clause-writes
returns-clause-writes c accesses n events begun t x began runs uses = running-writes accesses n events begun t x began runs uses
