use Rattle.std.proofs.Common.{ℕ, ◌*◌, ◌<◌}
use Rattle.equation.specs.Candidates.{HoldsHere, work_of}
use Rattle.equation.proofs.residuals.first_in_row.Given as goal

abbrev pub invariant-loop-piece : goal.invariant-loop-piece
invariant-loop-piece l = (j : ℕ) → j < l.piece * 64 → j < (work_of l.c).cols → HoldsHere l.c l.row j
