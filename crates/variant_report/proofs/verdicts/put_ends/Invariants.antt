use Rattle.std.proofs.Common.{◌≡◌, ◌++◌, drop}
use Rattle.variant_report.specs.VerdictTexts.{ends_text}
use Rattle.variant_report.proofs.verdicts.put_ends.Given as goal

-- what is appended, and the ends that are left
abbrev pub invariant-loop-end : goal.invariant-loop-end
invariant-loop-end l = l.out.items ++ ends_text l.op (drop l.end-index l.ends) ≡ l.fn.out.items ++ ends_text l.op l.ends
