use Rattle.std.proofs.Common.{◌≡◌, drop}
use Rattle.std.specs.List.{find}
use Rattle.worksheet_check.specs.RoundFindings.{misses}
use Rattle.worksheet_check.proofs.update_lines.missed.Given as goal

abbrev pub invariant-loop-need : goal.invariant-loop-need
invariant-loop-need l = find (misses l.op l.seen l.task) (drop l.need-index l.due) ≡ find (misses l.op l.seen l.task) l.due
