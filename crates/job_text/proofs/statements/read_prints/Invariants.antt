use Rattle.std.proofs.Common.{◌≡◌, [], length}
use Rattle.job_text.specs.JobFaults.{prints_at}
use Rattle.job_text.proofs.statements.read_prints.Given as goal

-- the prints so far, and those of the lines that are left
abbrev pub invariant-loop-line : goal.invariant-loop-line
invariant-loop-line l = prints_at l.names l.found l.lines.lines ≡ prints_at l.names [] l.fn.lines.lines

abbrev pub decreases-loop-line : goal.decreases-loop-line
decreases-loop-line l = length l.lines.lines
