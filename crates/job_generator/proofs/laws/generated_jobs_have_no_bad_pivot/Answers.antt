use Rattle.job_generator.proofs.GoodPivots.{none-generated, some-generated, factors-generated}
use Rattle.job_generator.proofs.laws.generated_jobs_have_no_bad_pivot.Goals as goal

pub returns-clause-none : goal.returns-clause-none
returns-clause-none c = none-generated

pub returns-clause-some : goal.returns-clause-some
returns-clause-some c = some-generated

pub returns-clause-factors_again : goal.returns-clause-factors_again
returns-clause-factors_again c = factors-generated
