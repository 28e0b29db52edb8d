use Rattle.std.proofs.Common.{ℕ, ◌<◌}
use Rattle.residue_sums.specs.Residues.{IsUnit}
use Rattle.equation.specs.Candidates.{combined_at, view_rows, view_table}
use Rattle.equation.proofs.input_pivots.first_by_rows.Given as goal

abbrev pub invariant-loop-i : goal.invariant-loop-i
invariant-loop-i l = (k j : ℕ) → k < l.i → j < view_rows l.u → IsUnit l.m (combined_at l.m l.minus (view_table l.t k k) (view_table l.u j j))
