use Rattle.std.specs.Prelude.{IsTrue}
use Rattle.task_sums.specs.SharedSums.{tasks_of_numbers}
use Rattle.task_sums.proofs.Runs.{whole-solved, whole-updated}
use Rattle.task_sums.proofs.laws.runs_leave_the_whole_sum.Goals as goal

pub returns-clause-solved : goal.returns-clause-solved
returns-clause-solved c m b tasks inside S shared n task did w run = whole-solved m b (tasks_of_numbers tasks) (λ i j. IsTrue (inside i j)) S shared n task did w run

pub returns-clause-updated : goal.returns-clause-updated
returns-clause-updated c m b tasks inside S shared n task did w run = whole-updated m b (tasks_of_numbers tasks) (λ i j. IsTrue (inside i j)) S shared n task did w run
