use Rattle.task_graph.proofs.TasksExist.{has-listed, listed-has}
use Rattle.task_graph.proofs.TasksSorted.{tasks_of-sorted, tasks_of-once}
use Rattle.task_graph.proofs.ValidFactors.{lower-valid}
use Rattle.task_graph.proofs.laws.tasks_are_those_that_exist.Goals as goal

pub returns-clause-existing : goal.returns-clause-existing
returns-clause-existing c op counts a h = has-listed op counts a h

pub returns-clause-all : goal.returns-clause-all
returns-clause-all c op counts a lower h = listed-has op counts a lower h

pub returns-clause-all_valid : goal.returns-clause-all_valid
returns-clause-all_valid c op counts a valid h = listed-has op counts a (lower-valid op valid) h

pub returns-clause-sorted : goal.returns-clause-sorted
returns-clause-sorted c op counts = tasks_of-sorted op counts

pub returns-clause-once : goal.returns-clause-once
returns-clause-once c op counts = tasks_of-once op counts
