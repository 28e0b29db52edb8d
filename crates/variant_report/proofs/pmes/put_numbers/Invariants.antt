use Rattle.std.proofs.Common.{◌≡◌, ◌++◌, drop}
use Rattle.variant_report.specs.PmeTexts.{numbers_text}
use Rattle.variant_report.proofs.pmes.put_numbers.Given as goal

-- what is appended, and the numbers that are left
abbrev pub invariant-loop-number : goal.invariant-loop-number
invariant-loop-number l = l.out.items ++ numbers_text (drop l.number-index l.numbers) ≡ l.fn.out.items ++ numbers_text l.numbers
