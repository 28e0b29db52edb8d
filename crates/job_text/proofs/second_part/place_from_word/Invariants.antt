use Rattle.std.proofs.Common.{◌≡◌, length}
use Rattle.job_text.specs.SecondParts.{from_word}
use Rattle.job_text.proofs.second_part.place_from_word.Given as goal

-- the line that is sought is among those that are left
abbrev pub invariant-loop-line : goal.invariant-loop-line
invariant-loop-line l = record {
  end : l.lines.end ≡ l.fn.lines.end;
  same : from_word l.word l.lines.lines ≡ from_word l.word l.fn.lines.lines;
}

abbrev pub decreases-loop-line : goal.decreases-loop-line
decreases-loop-line l = length l.lines.lines
