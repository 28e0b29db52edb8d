use Rattle.worksheet_laws.proofs.MadeAgain.{made_is_read, made_is_right}
use Rattle.worksheet_laws.proofs.MadeSheets.{variant_is_printable}
use Rattle.worksheet_laws.proofs.laws.made_worksheets_are_read_and_right.Goals as goal

pub returns-clause-printable : goal.returns-clause-printable
returns-clause-printable c = variant_is_printable

pub returns-clause-read : goal.returns-clause-read
returns-clause-read c = made_is_read

pub returns-clause-right : goal.returns-clause-right
returns-clause-right c = made_is_right
