use Rattle.flame_top.proofs.SomethingDue.{some_due}
use Rattle.flame_top.proofs.laws.something_is_due.Goals as goal

pub returns : goal.returns
returns c = some_due
