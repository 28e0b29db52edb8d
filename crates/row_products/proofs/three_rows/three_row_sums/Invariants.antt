use Rattle.std.proofs.Common.{◌≡◌, ℕ, ◌+◌, ◌*◌, ◌%◌, ◌<◌, length, slice_index}
use Rattle.residue_sums.specs.Sums.{sum_below}
use Rattle.row_products.proofs.three_rows.three_row_sums.Given as goal

abbrev pub invariant-loop-pair : goal.invariant-loop-pair
invariant-loop-pair l = record {
  first : (j : ℕ) → j < 2 * l.pair → j < l.fn.lines → slice_index l.sums j
      ≡ sum_below (λ k. slice_index l.fn.rows.first.now k * slice_index l.fn.panel.entries.now (j * l.fn.panel.height + (l.fn.panel.from + k))) (length l.fn.rows.first.now) % l.fn.m;
  second : (j : ℕ) → j < 2 * l.pair → j < l.fn.lines → slice_index l.sums (l.fn.lines + j)
      ≡ sum_below (λ k. slice_index l.fn.rows.second.now k * slice_index l.fn.panel.entries.now (j * l.fn.panel.height + (l.fn.panel.from + k))) (length l.fn.rows.first.now) % l.fn.m;
  third : (j : ℕ) → j < 2 * l.pair → j < l.fn.lines → slice_index l.sums (2 * l.fn.lines + j)
      ≡ sum_below (λ k. slice_index l.fn.rows.third.now k * slice_index l.fn.panel.entries.now (j * l.fn.panel.height + (l.fn.panel.from + k))) (length l.fn.rows.first.now) % l.fn.m;
  positive : 0 < l.pair → 0 < l.fn.m;
}
