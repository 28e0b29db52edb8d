use Rattle.issue_list.proofs.IssuedSteps.{issued-fits}
use Rattle.issue_list.proofs.laws.issued_steps_fit.Goals as goal

pub returns : goal.returns
returns c job b numbers valid pos have = issued-fits job b numbers valid have
