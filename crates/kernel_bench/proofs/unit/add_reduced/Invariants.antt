use Rattle.std.proofs.Common.{◌≡◌, ℕ, ◌+◌, ◌%◌, ◌<◌, ◌≤◌, ◌⊎◌, slice_index, All}
use Rattle.kernel_bench.proofs.unit.add_reduced.Given as goal

abbrev pub invariant-loop-j : goal.invariant-loop-j
invariant-loop-j l = record {
  done : (k : ℕ) → k < l.j → slice_index l.entries (l.start + k) ≡ (slice_index l.fn.entries (l.start + k) + slice_index l.sums k % l.m) % l.m;
  kept : (p : ℕ) → (p < l.start) ⊎ (l.start + l.j ≤ p) → slice_index l.entries p ≡ slice_index l.fn.entries p;
  residues : All (λ x. x < l.m) l.entries;
}
