use Rattle.worksheet_laws.proofs.SheetAgain.{one_name, one_sheet}
use Rattle.worksheet_laws.proofs.laws.texts_spell_one_worksheet.Goals as goal

pub returns-clause-sheet : goal.returns-clause-sheet
returns-clause-sheet c = one_sheet

pub returns-clause-of_one_name : goal.returns-clause-of_one_name
returns-clause-of_one_name c = one_name
