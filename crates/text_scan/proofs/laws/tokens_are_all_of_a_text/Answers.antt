use Rattle.text_scan.proofs.AllTokens.{AreAllTokens-scanned, lines-scanned}
use Rattle.text_scan.proofs.FirstBadBytes.{IsFirstBad-scanned}
use Rattle.text_scan.proofs.laws.tokens_are_all_of_a_text.Goals as goal

pub returns : goal.returns
returns c = record { tokens = AreAllTokens-scanned; lines = lines-scanned; bad_byte = IsFirstBad-scanned }
