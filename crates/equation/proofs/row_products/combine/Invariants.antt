use Rattle.std.proofs.Common.{◌≡◌, ℕ, ◌<◌, ◌≤◌, slice_index}
use Rattle.equation.specs.Candidates.{combined_at}
use Rattle.equation.proofs.row_products.combine.Given as goal

abbrev pub invariant-loop-j : goal.invariant-loop-j
invariant-loop-j l = record {
  done : (p : ℕ) → p < l.j → slice_index l.out p ≡ combined_at l.m l.minus (slice_index l.fn.out p) (slice_index l.other p);
  kept : (p : ℕ) → l.j ≤ p → slice_index l.out p ≡ slice_index l.fn.out p;
}
