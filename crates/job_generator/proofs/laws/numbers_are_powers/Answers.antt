use Rattle.job_generator.proofs.NumbersDrawn.{number-power, number-below}
use Rattle.job_generator.proofs.laws.numbers_are_powers.Goals as goal

pub returns-clause-power : goal.returns-clause-power
returns-clause-power c = number-power

pub returns-clause-below : goal.returns-clause-below
returns-clause-below c = number-below
