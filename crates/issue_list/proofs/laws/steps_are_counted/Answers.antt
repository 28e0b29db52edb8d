use Rattle.issue_list.proofs.StepsListed.{no-steps, steps-counted}
use Rattle.issue_list.proofs.laws.steps_are_counted.Goals as goal

pub returns-clause-count : goal.returns-clause-count
returns-clause-count c job b = steps-counted job b

pub returns-clause-none : goal.returns-clause-none
returns-clause-none c job b none = no-steps job b none
