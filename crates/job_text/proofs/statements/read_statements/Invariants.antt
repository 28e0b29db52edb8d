use Rattle.std.proofs.Common.{◌≡◌, [], length}
use Rattle.job_text.specs.JobFaults.{statements_at}
use Rattle.job_text.specs.MatricesSeen.{matrices_seen}
use Rattle.job_text.proofs.statements.read_statements.Given as goal

-- the statements so far, and those of the lines that are left
abbrev pub invariant-loop-line : goal.invariant-loop-line
invariant-loop-line l = record {
  end : l.lines.end ≡ l.fn.lines.end;
  on : statements_at l.operations (matrices_seen l.matrices) l.found l.lines.lines ≡ statements_at l.operations (matrices_seen l.matrices) [] l.fn.lines.lines;
}

abbrev pub decreases-loop-line : goal.decreases-loop-line
decreases-loop-line l = length l.lines.lines
