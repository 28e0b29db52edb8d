use Rattle.std.proofs.Common.{◌≡◌, ℕ, ◌+◌, ◌<◌, length, slice_index}
use Rattle.residue_sums.specs.Tables.{product, times, transpose}
use Rattle.residue_sums.specs.Grids.{entry}
use Rattle.structure_rules.specs.declared.Structure.TheVariants.{Diagonal, UnitLower}
use Rattle.structure_rules.specs.Structures.{view}
use Rattle.equation.proofs.row_products.multiply_ldl_row.Given as goal

abbrev pub invariant-loop-k : goal.invariant-loop-k
invariant-loop-k l = (j : ℕ) → j < length l.sums → slice_index l.sums j
    ≡ product l.k (times l.m l.w.rows (view UnitLower (entry l.w)) (view Diagonal (entry l.w))) (transpose (view UnitLower (entry l.w))) l.at.row (l.at.col + j)
