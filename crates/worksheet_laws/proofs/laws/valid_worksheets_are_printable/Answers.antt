use Rattle.worksheet_laws.proofs.MadeSheets.{valid_is_printable}
use Rattle.worksheet_laws.proofs.laws.valid_worksheets_are_printable.Goals as goal

pub returns : goal.returns
returns c = valid_is_printable
