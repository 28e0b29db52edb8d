use Rattle.operation_spec.proofs.WorkedOperations.{low, lu}
use Rattle.issue_list.proofs.WorkedLists.{backward, bordered, by_columns, cornered, paired, right_looking, two_statements}
use Rattle.issue_list.proofs.laws.some_variants_are_worked_out.Goals as goal

pub returns-clause-steps : goal.returns-clause-steps
returns-clause-steps c = (two_statements, by_columns)

pub returns-clause-bordered : goal.returns-clause-bordered
returns-clause-bordered c = (lu, bordered)

pub returns-clause-right_looking : goal.returns-clause-right_looking
returns-clause-right_looking c = (lu, right_looking)

pub returns-clause-backward : goal.returns-clause-backward
returns-clause-backward c = (low, backward)

pub returns-clause-paired : goal.returns-clause-paired
returns-clause-paired c = (low, paired)

pub returns-clause-cornered : goal.returns-clause-cornered
returns-clause-cornered c = (low, cornered)
