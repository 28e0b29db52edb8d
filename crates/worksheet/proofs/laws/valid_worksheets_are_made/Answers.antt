use Rattle.worksheet.proofs.MadeWorksheets.{made_is_valid}
use Rattle.worksheet.proofs.laws.valid_worksheets_are_made.Goals as goal

pub returns-clause-made : goal.returns-clause-made
returns-clause-made c = made_is_valid

pub returns-clause-others : goal.returns-clause-others
returns-clause-others c op w valid own = cc (own, valid.guard, valid.start, valid.take, valid.before, valid.give, valid.after)
