use Rattle.invariant_family.proofs.Numbering.{length-numbered_from, number-numbered_from, invariant-numbered_from}
use Rattle.invariant_family.proofs.laws.variants_are_numbered.Goals as goal

pub returns-clause-count : goal.returns-clause-count
returns-clause-count c n vs = length-numbered_from n vs

pub returns-clause-numbers : goal.returns-clause-numbers
returns-clause-numbers c n vs k d below = number-numbered_from n vs k d below

pub returns-clause-kept : goal.returns-clause-kept
returns-clause-kept c n vs k d e below = invariant-numbered_from n vs k d e below
