use Rattle.std.proofs.Common.{ℕ, ◌<◌}
use Rattle.flame_top.specs.Verify.{Verifies}
use Rattle.flame_top.proofs.VerifiedStatements.{AreBefore}
use Rattle.flame_top.proofs.verify.first_difference.Given as goal

abbrev pub invariant-loop-at : goal.invariant-loop-at
invariant-loop-at l = record {
  before : AreBefore l.job l.after l.at l.matrices;
  verified : (k : ℕ) → k < l.at → Verifies l.job l.after k;
}
