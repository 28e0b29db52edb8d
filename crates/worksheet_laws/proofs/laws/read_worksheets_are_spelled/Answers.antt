use Rattle.worksheet_laws.proofs.SheetTaken.{read_sheet_is_spelled}
use Rattle.worksheet_laws.proofs.laws.read_worksheets_are_spelled.Goals as goal

pub returns : goal.returns
returns c = read_sheet_is_spelled
