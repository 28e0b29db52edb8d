use Rattle.issue_list.proofs.StepsInOrder.{canonical-fits}
use Rattle.issue_list.proofs.laws.canonical_steps_fit.Goals as goal

pub returns : goal.returns
returns c job b valid pos = canonical-fits job b valid
