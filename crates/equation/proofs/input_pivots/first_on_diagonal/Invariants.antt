use Rattle.std.proofs.Common.{ℕ, ◌<◌}
use Rattle.residue_sums.specs.Residues.{IsUnit}
use Rattle.equation.specs.Candidates.{view_table}
use Rattle.equation.proofs.input_pivots.first_on_diagonal.Given as goal

abbrev pub invariant-loop-i : goal.invariant-loop-i
invariant-loop-i l = (k : ℕ) → k < l.i → IsUnit l.m (view_table l.t k k)
