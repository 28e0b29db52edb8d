use Rattle.std.proofs.Common.{◌≡◌, [], codes, length}
use Rattle.worksheet_text.specs.SheetReading.{each_line, update_at}
use Rattle.worksheet_text.proofs.round_lines.read_updates.Given as goal

-- the updates so far, and those of the lines that are left
abbrev pub invariant-loop-line : goal.invariant-loop-line
invariant-loop-line l = record {
  end : l.lines.end ≡ l.fn.lines.end;
  on : each_line (codes "update") (update_at l.fn.lines.end) l.found l.lines.lines ≡ each_line (codes "update") (update_at l.fn.lines.end) [] l.fn.lines.lines;
}

abbrev pub decreases-loop-line : goal.decreases-loop-line
decreases-loop-line l = length l.lines.lines
