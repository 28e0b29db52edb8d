use Rattle.issue_list.proofs.IssuedCounts.{issued-counted}
use Rattle.issue_list.proofs.laws.issued_steps_are_counted.Goals as goal

pub returns : goal.returns
returns c job b numbers valid have = issued-counted job b numbers valid have
