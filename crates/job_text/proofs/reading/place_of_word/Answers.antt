use Rattle.text_scan.proofs.ScannedTokens.{AreTokens-scanned}
use Rattle.job_text.proofs.reading.place_of_word.Goals as goal

pub new-lines-requires-clause-scanned : goal.new-lines-requires-clause-scanned
new-lines-requires-clause-scanned c = rw c.deref.ensures.value (AreTokens-scanned 1 c.args.bytes.now c.in_ok-tokens.tokens.items c.in_ok-tokens.ensures.scanned)
