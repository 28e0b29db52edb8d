use Rattle.text_scan.proofs.NumberWords.{number_read}
use Rattle.text_scan.proofs.words.number.Goals as goal

pub returns-in-Some : goal.returns-in-Some
returns-in-Some c = number_read _ _ _ c.text.ensures c.requires.word c.requires.kind c.in-Some.ensures

pub returns-in-None : goal.returns-in-None
returns-in-None c = number_read _ _ _ c.text.ensures c.requires.word c.requires.kind c.in-None.ensures
