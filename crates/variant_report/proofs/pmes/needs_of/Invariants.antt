use Rattle.std.proofs.Common.{◌≡◌, ◌++◌, drop}
use Rattle.variant_report.specs.PmeTexts.{needs_of}
use Rattle.variant_report.proofs.pmes.needs_of.Given as goal

-- the numbers so far, and those of the pairs that are left
abbrev pub invariant-loop-pair : goal.invariant-loop-pair
invariant-loop-pair l = l.needs ++ needs_of l.number (drop l.pair-index l.edges) ≡ needs_of l.number l.edges
