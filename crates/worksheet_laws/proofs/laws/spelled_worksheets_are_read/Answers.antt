use Rattle.worksheet_laws.proofs.SheetAgain.{spelled_sheet_is_read}
use Rattle.worksheet_laws.proofs.laws.spelled_worksheets_are_read.Goals as goal

pub returns : goal.returns
returns c = spelled_sheet_is_read
