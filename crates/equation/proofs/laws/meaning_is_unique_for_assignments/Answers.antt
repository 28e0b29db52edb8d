use Rattle.equation.proofs.AssignedMeanings.{one_outcome, none_fails}
use Rattle.equation.proofs.laws.meaning_is_unique_for_assignments.Goals as goal

pub returns-clause-one : goal.returns-clause-one
returns-clause-one c job a b all = one_outcome job job.statements job.matrices a b all

pub returns-clause-pivots : goal.returns-clause-pivots
returns-clause-pivots c job number place all = none_fails job job.statements job.matrices number place all
