use Rattle.equation.proofs.JobMeanings.{one_meaning, one_bad_pivot, never_both}
use Rattle.equation.proofs.laws.meaning_is_unique.Goals as goal

pub returns-clause-matrices : goal.returns-clause-matrices
returns-clause-matrices c job a b valid = one_meaning job valid a b

pub returns-clause-pivots : goal.returns-clause-pivots
returns-clause-pivots c job number other place there valid = one_bad_pivot job valid number other place there

pub returns-clause-apart : goal.returns-clause-apart
returns-clause-apart c job a number place valid = never_both job valid a number place
