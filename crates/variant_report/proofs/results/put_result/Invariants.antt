use Rattle.std.proofs.Common.{◌≡◌, ◌++◌, drop}
use Rattle.std.specs.List.{flat_map}
use Rattle.variant_report.specs.ResultTexts.{printed_text, result_text}
use Rattle.variant_report.proofs.results.put_result.Given as goal

-- what is appended, and the texts of the prints that are left
abbrev pub invariant-loop-n : goal.invariant-loop-n
invariant-loop-n l = l.out.items ++ flat_map (printed_text l.job l.matrices) (drop l.n-index l.job.prints) ≡ l.fn.out.items ++ result_text l.job l.matrices
