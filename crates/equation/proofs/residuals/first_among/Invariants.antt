use Rattle.std.proofs.Common.{ℕ, ◌+◌, ◌<◌}
use Rattle.equation.specs.Candidates.{HoldsHere}
use Rattle.equation.proofs.residuals.first_among.Given as goal

abbrev pub invariant-loop-j : goal.invariant-loop-j
invariant-loop-j l = (p : ℕ) → p < l.j → HoldsHere l.c l.at.row (l.at.col + p)
