use Rattle.std.proofs.Common.{◌≡◌, ◌≢◌, ℕ, ◌<◌, slice_index}
use Rattle.part_factors.specs.PanelRows.{in_panel}
use Rattle.part_factors.proofs.panel_rows.put_column.Given as goal

abbrev pub invariant-loop-j : goal.invariant-loop-j
invariant-loop-j l = record {
  here : (j : ℕ) → j < l.j → in_panel l.panel l.height 0 j l.k ≡ slice_index l.values j;
  others : (j p : ℕ) → p < l.height → p ≢ l.k → in_panel l.panel l.height 0 j p ≡ in_panel l.fn.panel l.height 0 j p;
}
