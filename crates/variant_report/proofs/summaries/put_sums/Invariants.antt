use Rattle.std.proofs.Common.{◌≡◌, ◌++◌, drop}
use Rattle.std.specs.List.{flat_map}
use Rattle.variant_report.specs.SummaryTexts.{sum_line}
use Rattle.variant_report.proofs.summaries.put_sums.Given as goal

-- what is appended, and the lines of the prints that are left
abbrev pub invariant-loop-n : goal.invariant-loop-n
invariant-loop-n l = l.out.items ++ flat_map (sum_line l.job l.matrices) (drop l.n-index l.job.prints)
    ≡ l.fn.out.items ++ flat_map (sum_line l.job l.matrices) l.job.prints
