use Rattle.std.proofs.Common.{◌≡◌, ℕ, ◌+◌, ◌*◌, ◌<◌, slice_index}
use Rattle.residue_sums.specs.Tables.{times}
use Rattle.matrix_parts.specs.Opers.{op_cols, op_table}
use Rattle.part_updates.proofs.updates.factors.fill_products.Given as goal

abbrev pub invariant-loop-k : goal.invariant-loop-k
invariant-loop-k l = (g q : ℕ) → g < l.piece.lines → q < l.k → slice_index l.panel (g * l.piece.height + q)
    ≡ times l.m (op_cols l.d) (op_table l.d) (op_table l.b) (l.piece.inner + q) (l.piece.left + g)
