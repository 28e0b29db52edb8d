use Rattle.std.proofs.Common.{◌≡◌, ◌+◌, [], drop, take}
use Rattle.worksheet_check.specs.RoundFindings.{update_finding}
use Rattle.worksheet_check.proofs.update_lines.update_finding.Given as goal

abbrev pub invariant-loop-at : goal.invariant-loop-at
invariant-loop-at l = (l.number ≡ l.at + 1) × (update_finding l.op l.due (take l.at l.updates) l.number (drop l.at l.updates) ≡ update_finding l.op l.due [] 1 l.updates)
