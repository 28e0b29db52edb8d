use Rattle.text_scan.proofs.ScannedTokens.{AreTokens-scanned}
use Rattle.worksheet_text.proofs.reading.read_text.Goals as goal

pub new-lines-requires-clause-scanned : goal.new-lines-requires-clause-scanned
new-lines-requires-clause-scanned c = rw c.deref.ensures.value (AreTokens-scanned c.args.first c.args.bytes.now c.in-Ok.tokens.items c.in-Ok.ensures)
