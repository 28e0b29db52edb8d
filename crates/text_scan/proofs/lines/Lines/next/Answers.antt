use Rattle.text_scan.proofs.TokenParts.{AreTokens-back}
use Rattle.text_scan.proofs.lines.Lines.next.Goals as goal

pub invariant_of-self : goal.invariant_of-self
invariant_of-self c = record {
  scanned = AreTokens-back c.in-Some.line.tokens.now c.in-Some.line.rest.now c.in-Some.ensures.parts c.self.invariant.scanned;
  last = c.self.invariant.last;
}
