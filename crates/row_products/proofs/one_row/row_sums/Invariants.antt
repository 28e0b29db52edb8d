use Rattle.std.proofs.Common.{◌≡◌, ℕ, ◌+◌, ◌*◌, ◌%◌, ◌<◌, length, slice_index}
use Rattle.residue_sums.specs.Sums.{sum_below}
use Rattle.row_products.proofs.one_row.row_sums.Given as goal

abbrev pub invariant-loop-four : goal.invariant-loop-four
invariant-loop-four l = record {
  sums : (j : ℕ) → j < 4 * l.four → j < length l.sums → slice_index l.sums j
      ≡ sum_below (λ k. slice_index l.row k * slice_index l.fn.panel.entries.now (j * l.fn.panel.height + (l.fn.panel.from + k))) (length l.row) % l.fn.m;
  positive : 0 < l.four → 0 < l.fn.m;
}
