use Rattle.text_scan.proofs.ScannedTokens.{AreTokens-scanned}
use Rattle.matrix_text.proofs.tests.rows_sum.Goals as goal

pub new-lines-requires-clause-scanned : goal.new-lines-requires-clause-scanned
new-lines-requires-clause-scanned c = rw c.deref.ensures.value (AreTokens-scanned 5 _ _ c.in-Some-Ok.ensures')
