use Rattle.std.proofs.Common.{◌≡◌, ℕ, ◌+◌, ◌*◌, ◌<◌, ◌≤◌, slice_index}
use Rattle.equation.specs.Candidates.{view_table}
use Rattle.equation.proofs.row_products.add_entries.Given as goal

abbrev pub invariant-loop-j : goal.invariant-loop-j
invariant-loop-j l = record {
  done : (p : ℕ) → p < l.j → slice_index l.sums p ≡ slice_index l.fn.sums p + l.x * view_table l.v l.k (l.from + p);
  kept : (p : ℕ) → l.j ≤ p → slice_index l.sums p ≡ slice_index l.fn.sums p;
}
