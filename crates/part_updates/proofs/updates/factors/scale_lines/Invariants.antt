use Rattle.std.proofs.Common.{◌≡◌, ℕ, ◌+◌, ◌*◌, ◌%◌, ◌<◌, ◌≤◌, slice_index}
use Rattle.matrix_parts.specs.Opers.{op_table}
use Rattle.part_updates.proofs.updates.factors.scale_lines.Given as goal

abbrev pub invariant-loop-g : goal.invariant-loop-g
invariant-loop-g l = record {
  here : (e k : ℕ) → e < l.g → k < l.piece.height → slice_index l.panel (e * l.piece.height + k)
      ≡ slice_index l.fn.panel (e * l.piece.height + k) * op_table l.d (l.piece.inner + k) (l.piece.inner + k) % l.m;
  behind : (e k : ℕ) → l.g ≤ e → e < l.piece.lines → k < l.piece.height → slice_index l.panel (e * l.piece.height + k) ≡ slice_index l.fn.panel (e * l.piece.height + k);
}
