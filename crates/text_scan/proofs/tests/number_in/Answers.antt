use Rattle.text_scan.specs.Scanned.{AreTokens}
use Rattle.text_scan.proofs.TokenParts.{IsTokenOf-got}
use Rattle.text_scan.proofs.tests.number_in.Goals as goal

pub number-requires-clause-word : goal.number-requires-clause-word
number-requires-clause-word c =
    let text = c.args.text.now in
    let are : AreTokens 1 text c.deref.result.now = rw c.deref.ensures.value (c.scanned_texts_have_tokens.ensures 1 text c.in-Ok.tokens.items c.in-Ok.ensures) in
    (IsTokenOf-got 0 c.in-Some.token.now c.in-Some.ensures.value are).is_one
