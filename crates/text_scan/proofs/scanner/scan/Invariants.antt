use Rattle.std.proofs.Common.{◌≡◌, ◌+◌, ◌-◌, ◌≤◌, length, drop}
use Rattle.text_scan.specs.Tokens.{tokens_from, with_found}
use Rattle.text_scan.proofs.scanner.scan.Given as goal

abbrev pub invariant-loop-at : goal.invariant-loop-at
invariant-loop-at l = record {
  in_range : l.at ≤ length l.bytes;
  line_low : l.line ≤ l.first_line + l.at;
  so_far : with_found l.found.items (tokens_from 0 l.at l.line (drop l.at l.bytes)) ≡ tokens_from 0 0 l.first_line l.bytes;
}

abbrev pub decreases-loop-at : goal.decreases-loop-at
decreases-loop-at l = length l.bytes - l.at
