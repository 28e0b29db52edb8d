use Rattle.std.proofs.Common.{◌≡◌, ◌≢◌, ℕ, ◌-◌, ◌*◌, ◌%◌, ◌<◌}
use Rattle.residue_sums.specs.Grids.{entry}
use Rattle.matrix_parts.specs.Lent.{grid_of}
use Rattle.part_factors.specs.PanelRows.{in_panel}
use Rattle.part_factors.proofs.ldl_rows.fill_line.Given as goal

abbrev pub invariant-loop-k : goal.invariant-loop-k
invariant-loop-k l = record {
  here : (k : ℕ) → k < l.k → in_panel l.panel l.at.height 0 (l.at.row - l.at.from) k ≡ entry (grid_of l.w) k k * entry (grid_of l.w) l.at.row k % l.m;
  others : (j k : ℕ) → k < l.at.height → j ≢ l.at.row - l.at.from → in_panel l.panel l.at.height 0 j k ≡ in_panel l.fn.panel l.at.height 0 j k;
}
