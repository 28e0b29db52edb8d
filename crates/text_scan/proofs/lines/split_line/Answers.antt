use Rattle.text_scan.proofs.FirstLines.{lines_of-first_line}
use Rattle.text_scan.proofs.lines.split_line.Goals as goal

pub returns-clause-line : goal.returns-clause-line
returns-clause-line c = λ bytes.
    rw (c.split_at.ensures.front, c.split_at.ensures.back, c.line_len.ensures.value) (lines_of-first_line bytes c.args.tokens.now c.in_ok-number.field-0.now c.in_ok-number.ensures.value)
