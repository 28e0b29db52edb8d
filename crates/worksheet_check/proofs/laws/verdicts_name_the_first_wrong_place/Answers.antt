use Rattle.worksheet_check.proofs.WrongPlaces.{wrong_there, right_before}
use Rattle.worksheet_check.proofs.laws.verdicts_name_the_first_wrong_place.Goals as goal

pub returns-clause-wrong : goal.returns-clause-wrong
returns-clause-wrong c = wrong_there

pub returns-clause-before : goal.returns-clause-before
returns-clause-before c = right_before
