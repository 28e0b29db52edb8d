use Rattle.std.proofs.Common.{◌≡◌, ◌≢◌, ℕ, ◌+◌, ◌*◌, ◌<◌, slice_index}
use Rattle.residue_sums.specs.Tables.{times}
use Rattle.matrix_parts.specs.Opers.{op_cols, op_table}
use Rattle.part_updates.proofs.updates.factors.product_across.Given as goal

abbrev pub invariant-loop-g : goal.invariant-loop-g
invariant-loop-g l = record {
  here : (e : ℕ) → e < l.g → slice_index l.panel (e * l.piece.height + l.k) ≡ times l.m (op_cols l.d) (op_table l.d) (op_table l.b) (l.piece.inner + l.k) (l.piece.left + e);
  others : (e q : ℕ) → q < l.piece.height → q ≢ l.k → slice_index l.panel (e * l.piece.height + q) ≡ slice_index l.fn.panel (e * l.piece.height + q);
}
