use Rattle.std.proofs.Common.{◌≡◌, ℕ, ◌+◌, ◌*◌, ◌<◌, ◌≤◌, slice_index}
use Rattle.kernel_bench.proofs.unit.add_multiple.Given as goal

abbrev pub invariant-loop-j : goal.invariant-loop-j
invariant-loop-j l = record {
  done : (k : ℕ) → k < l.j → slice_index l.sums k ≡ slice_index l.fn.sums k + l.x * slice_index l.row k;
  kept : (k : ℕ) → l.j ≤ k → slice_index l.sums k ≡ slice_index l.fn.sums k;
}
