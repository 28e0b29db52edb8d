use Rattle.issue_list.proofs.WorkedLists.{fourteen, nine, three_rows, two_statements}
use Rattle.issue_list.proofs.laws.some_lists_are_worked_out.Goals as goal

pub returns-clause-nine : goal.returns-clause-nine
returns-clause-nine c = (two_statements, nine)

pub returns-clause-fourteen : goal.returns-clause-fourteen
returns-clause-fourteen c = (three_rows, fourteen)
