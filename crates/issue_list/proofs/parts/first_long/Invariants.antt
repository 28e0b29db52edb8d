use Rattle.std.proofs.Common.{ℕ, ◌≤◌}
use Rattle.issue_list.specs.CanonicalSteps.{HasDimension, most_parts, parts_at}
use Rattle.issue_list.proofs.parts.first_long.Given as goal

abbrev pub invariant-loop-before : goal.invariant-loop-before
invariant-loop-before l =
    (t e : ℕ) → t ≤ l.before → HasDimension l.blocks.job t e → parts_at l.blocks.job l.blocks.b t e ≤ most_parts
