use Rattle.std.proofs.Common.{◌≡◌, ◌≤◌, ◌*◌, ◌^◌, take}
use Rattle.std.specs.List.{sum}
use Rattle.variant_report.proofs.summaries.total.Given as goal

-- the sum of the numbers so far, each of which is below 2^64
abbrev pub invariant-loop-number : goal.invariant-loop-number
invariant-loop-number l = record {
  sum : l.total ≡ sum (take l.number-index l.numbers);
  small : l.total ≤ l.number-index * 2 ^ 64;
}
