use Rattle.flame_top.proofs.DueLaws.{same_due}
use Rattle.flame_top.proofs.laws.due_is_determined.Goals as goal

pub returns-clause-status : goal.returns-clause-status
returns-clause-status c = λ words input status other text different due due_other. (same_due words input status other text different due due_other).0

pub returns-clause-text : goal.returns-clause-text
returns-clause-text c = λ words one input status other text different due due_other. (same_due words input status other text different due due_other).1.1 one

pub returns-clause-schedule : goal.returns-clause-schedule
returns-clause-schedule c = λ words input status other text different due due_other. (same_due words input status other text different due due_other).1.0
