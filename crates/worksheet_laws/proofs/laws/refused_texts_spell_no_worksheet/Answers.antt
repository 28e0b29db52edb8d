use Rattle.worksheet_laws.proofs.SheetAgain.{no_sheet}
use Rattle.worksheet_laws.proofs.laws.refused_texts_spell_no_worksheet.Goals as goal

pub returns : goal.returns
returns c = no_sheet
