use Rattle.std.proofs.Common.{ℕ, ◌<◌, ◌≤◌, get_or}
use Rattle.issue_list.specs.CanonicalSteps.{most_parts}
use Rattle.issue_list.proofs.parts.first_long_of.Given as goal

abbrev pub invariant-loop-d : goal.invariant-loop-d
invariant-loop-d l = (e : ℕ) → e < l.d → get_or l.counts e 0 ≤ most_parts
