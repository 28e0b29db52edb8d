use Rattle.worksheet_laws.proofs.PrintedSheets.{printed_is_spelled}
use Rattle.worksheet_laws.proofs.laws.printed_worksheets_are_spelled.Goals as goal

pub returns : goal.returns
returns c = printed_is_spelled
