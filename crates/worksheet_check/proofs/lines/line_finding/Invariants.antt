use Rattle.std.proofs.Common.{◌≡◌, ◌+◌, ◌-◌, ◌≤◌, length, drop}
use Rattle.worksheet_check.specs.RoundFindings.{line_finding, place_at}
use Rattle.worksheet_check.proofs.lines.line_finding.Given as goal

abbrev pub invariant-loop-at : goal.invariant-loop-at
invariant-loop-at l = (l.at ≤ length l.lines) × (l.at ≤ length l.due)
    × (line_finding (place_at l.time) (l.at + 1) (drop l.at l.lines) (drop l.at l.due) ≡ line_finding (place_at l.time) 1 l.lines l.due)

abbrev pub decreases-loop-at : goal.decreases-loop-at
decreases-loop-at l = length l.lines - l.at
