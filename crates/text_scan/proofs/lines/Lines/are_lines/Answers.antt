use Rattle.text_scan.proofs.LineOrders.{AreLines-from_tokens}
use Rattle.text_scan.proofs.lines.Lines.are_lines.Goals as goal

pub returns : goal.returns
returns c = rw (← c.self.view_is, c.self.invariant.last) (AreLines-from_tokens _ _ _ c.self.invariant.scanned)
