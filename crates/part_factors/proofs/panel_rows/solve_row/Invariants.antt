use Rattle.std.proofs.Common.{◌≡◌, ℕ, ◌<◌, ◌≤◌, length, slice_index}
use Rattle.part_factors.specs.PanelRows.{in_panel, AreSolved}
use Rattle.part_factors.proofs.panel_rows.solve_row.Given as goal

abbrev pub invariant-loop-j : goal.invariant-loop-j
invariant-loop-j l = record {
  solved : AreSolved l.m (λ j. slice_index l.row j) (λ j. slice_index l.fn.values j) (λ j. slice_index l.inverses j)
      (in_panel l.panel.entries.now l.panel.height l.panel.from) (length l.inverses) l.j (λ j. slice_index l.values j);
  range : (j : ℕ) → j < length l.fn.values → slice_index l.values j < l.m;
  later : (j : ℕ) → l.j ≤ j → slice_index l.values j ≡ slice_index l.fn.values j;
}
