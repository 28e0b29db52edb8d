use Rattle.std.proofs.Common.{◌≡◌, ℕ, ◌+◌, ◌<◌, slice_index}
use Rattle.equation.specs.Candidates.{view_table}
use Rattle.equation.proofs.row_products.write_row.Given as goal

abbrev pub invariant-loop-j : goal.invariant-loop-j
invariant-loop-j l = (p : ℕ) → p < l.j → slice_index l.out p ≡ view_table l.v l.at.row (l.at.col + p)
