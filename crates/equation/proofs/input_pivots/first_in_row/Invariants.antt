use Rattle.std.proofs.Common.{ℕ, ◌<◌}
use Rattle.residue_sums.specs.Residues.{IsUnit}
use Rattle.equation.specs.Candidates.{combined_at, view_table}
use Rattle.equation.proofs.input_pivots.first_in_row.Given as goal

abbrev pub invariant-loop-j : goal.invariant-loop-j
invariant-loop-j l = (k : ℕ) → k < l.j → IsUnit l.m (combined_at l.m l.minus l.a (view_table l.u k k))
