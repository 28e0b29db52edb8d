use Rattle.std.proofs.Common.{◌≡◌, ◌≢◌, ℕ, ◌+◌, ◌*◌, ◌<◌, slice_index}
use Rattle.operand_lines.proofs.lines.put_across.Given as goal

abbrev pub invariant-loop-g : goal.invariant-loop-g
invariant-loop-g l = record {
  here : (e : ℕ) → e < l.g → slice_index l.panel (e * l.height + l.k) ≡ slice_index l.numbers e;
  others : (e q : ℕ) → q < l.height → q ≢ l.k → slice_index l.panel (e * l.height + q) ≡ slice_index l.fn.panel (e * l.height + q);
}
