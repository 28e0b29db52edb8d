use Rattle.std.proofs.Common.{◌≡◌, ℕ, ◌+◌, ◌<◌, ◌≤◌, ◌⊎◌, length, slice_index}
use Rattle.operand_lines.proofs.lines.put_line.Given as goal

abbrev pub invariant-loop-k : goal.invariant-loop-k
invariant-loop-k l = record {
  here : (q : ℕ) → q < l.k → slice_index l.panel (l.at + q) ≡ slice_index l.numbers q;
  others : (p : ℕ) → (p < l.at) ⊎ (l.at + length l.numbers ≤ p) → slice_index l.panel p ≡ slice_index l.fn.panel p;
}
