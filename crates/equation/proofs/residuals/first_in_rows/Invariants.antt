use Rattle.std.proofs.Common.{ℕ, ◌<◌}
use Rattle.equation.specs.Candidates.{HoldsHere, work_of}
use Rattle.equation.proofs.residuals.first_in_rows.Given as goal

abbrev pub invariant-loop-row : goal.invariant-loop-row
invariant-loop-row l = (i j : ℕ) → i < l.row → j < (work_of l.c).cols → HoldsHere l.c i j
