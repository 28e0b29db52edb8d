use Rattle.std.proofs.Common.{◌≡◌, ◌++◌, drop, map}
use Rattle.text_scan.specs.NormalTexts.{lines_text}
use Rattle.job_text.specs.JobLines.{statement_line}
use Rattle.job_text.proofs.writing.put_statements.Given as goal

-- what is appended, and the lines of the statements that are left
abbrev pub invariant-loop-s : goal.invariant-loop-s
invariant-loop-s l = l.out.items ++ lines_text (map (statement_line l.job) (drop l.s-index l.job.statements)) ≡ l.fn.out.items ++ lines_text (map (statement_line l.job) l.job.statements)
