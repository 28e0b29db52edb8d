use Rattle.std.proofs.Common.{◌≡◌, ◌+◌, ◌*◌, ◌^◌, ◌≤◌, slice_index}
use Rattle.residue_sums.specs.Sums.{sum_below}
use Rattle.part_factors.proofs.panel_rows.product_sum.Given as goal

abbrev pub invariant-loop-k : goal.invariant-loop-k
invariant-loop-k l = record {
  sum : l.low + 2 ^ 32 * l.high ≡ sum_below (λ t. slice_index l.xs t * slice_index l.ys t) l.k;
  low_bound : l.low ≤ l.k * 2 ^ 32;
  high_bound : l.high ≤ l.k * 2 ^ 32;
}
