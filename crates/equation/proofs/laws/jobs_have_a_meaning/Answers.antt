use Rattle.equation.proofs.JobMeanings.{some_meaning}
use Rattle.equation.proofs.laws.jobs_have_a_meaning.Goals as goal

pub returns : goal.returns
returns c = some_meaning
