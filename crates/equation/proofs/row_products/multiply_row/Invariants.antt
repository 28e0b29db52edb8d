use Rattle.std.proofs.Common.{◌≡◌, ℕ, ◌+◌, ◌<◌, length, slice_index}
use Rattle.residue_sums.specs.Tables.{product}
use Rattle.equation.specs.Candidates.{view_table}
use Rattle.equation.proofs.row_products.multiply_row.Given as goal

abbrev pub invariant-loop-k : goal.invariant-loop-k
invariant-loop-k l = (j : ℕ) → j < length l.sums → slice_index l.sums j ≡ product l.k (view_table l.f) (view_table l.g) l.at.row (l.at.col + j)
