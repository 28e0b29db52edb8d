use Rattle.std.proofs.Common.{rules, ◌==◌}
use Rattle.std.proofs.lemmas.List.Sums.{length-filter}
use Rattle.text_scan.proofs.lines.end_line.Goals as goal

pub returns : goal.returns
returns c = rw (length-filter (λ b. b == 10) c.args.bytes.now) (search rules)
