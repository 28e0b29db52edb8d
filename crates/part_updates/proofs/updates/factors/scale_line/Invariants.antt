use Rattle.std.proofs.Common.{◌≡◌, ℕ, ◌+◌, ◌*◌, ◌%◌, ◌<◌, ◌≤◌, ◌⊎◌, slice_index}
use Rattle.matrix_parts.specs.Opers.{op_table}
use Rattle.part_updates.proofs.updates.factors.scale_line.Given as goal

abbrev pub invariant-loop-k : goal.invariant-loop-k
invariant-loop-k l = record {
  here : (q : ℕ) → q < l.k → slice_index l.panel (l.at + q) ≡ slice_index l.fn.panel (l.at + q) * op_table l.d (l.from + q) (l.from + q) % l.m;
  behind : (q : ℕ) → l.k ≤ q → q < l.height → slice_index l.panel (l.at + q) ≡ slice_index l.fn.panel (l.at + q);
  others : (p : ℕ) → (p < l.at) ⊎ (l.at + l.height ≤ p) → slice_index l.panel p ≡ slice_index l.fn.panel p;
}
