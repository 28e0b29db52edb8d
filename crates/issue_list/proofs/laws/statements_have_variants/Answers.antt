use Rattle.issue_list.proofs.FirstWithout.{have_or_first, never-both, one-first}
use Rattle.issue_list.proofs.laws.statements_have_variants.Goals as goal

pub returns-clause-some : goal.returns-clause-some
returns-clause-some c job numbers = have_or_first job numbers

pub returns-clause-apart : goal.returns-clause-apart
returns-clause-apart c job numbers s have first = never-both job numbers s have first

pub returns-clause-one : goal.returns-clause-one
returns-clause-one c job numbers s t first second = one-first job numbers s t first second
