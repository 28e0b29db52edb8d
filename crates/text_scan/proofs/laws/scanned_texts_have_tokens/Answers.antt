use Rattle.text_scan.proofs.ScannedTokens.{AreTokens-scanned}
use Rattle.text_scan.proofs.laws.scanned_texts_have_tokens.Goals as goal

pub returns : goal.returns
returns c = AreTokens-scanned
