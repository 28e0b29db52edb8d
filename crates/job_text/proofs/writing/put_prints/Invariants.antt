use Rattle.std.proofs.Common.{◌≡◌, ◌++◌, drop, map}
use Rattle.text_scan.specs.NormalTexts.{lines_text}
use Rattle.job_text.specs.JobLines.{print_line}
use Rattle.job_text.proofs.writing.put_prints.Given as goal

-- what is appended, and the lines of the prints that are left
abbrev pub invariant-loop-n : goal.invariant-loop-n
invariant-loop-n l = l.out.items ++ lines_text (map (print_line l.job) (drop l.n-index l.job.prints)) ≡ l.fn.out.items ++ lines_text (map (print_line l.job) l.job.prints)
