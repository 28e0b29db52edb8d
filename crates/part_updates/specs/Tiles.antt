-- Tiles: three rows of an operand by the lines of a panel.
use Rattle.std.specs.Prelude.{◌≡◌, ℕ, ◌+◌, ◌-◌, ◌*◌, ◌%◌, ◌<◌, ◌≤◌, ◌^◌, min, List, length, slice_index}
use Rattle.matrix_parts.specs.declared.oper.Oper.{Oper}
use Rattle.matrix_parts.specs.Opers.{op_rows, op_cols, op_table}
use Rattle.row_products.specs.declared.panel.Panel.{Panel}
use Rattle.part_updates.specs.declared.updates.rows.Tile.{Tile}
use Rattle.part_updates.specs.Changes.{panel_sum}

-- its first row is one of the operand, and the panel has its lines, from the operand's inner numbers, all below 2 ^ 32
pub record IsTile (a : Oper) (tile : Tile) (panel : Panel) : Type 0 where
  pub row_in : tile.row < op_rows a
  pub within : tile.inner + panel.height ≤ op_cols a
  pub whole : panel.from ≡ 0
  pub few : panel.height < 2 ^ 31
  pub room : tile.lines * panel.height ≤ length panel.entries.now
  pub small_rows : (i k : ℕ) → i < op_rows a → k < op_cols a → op_table a i k < 2 ^ 32
  pub small_panel : (j k : ℕ) → j < tile.lines → k < panel.height → slice_index panel.entries.now (j * panel.height + k) < 2 ^ 32

-- for each of its rows, three or as many as are left, and each line the sum of their products, modulo m
abbrev pub AreTileSums : ℕ → Oper → Tile → Panel → List ℕ → Type 0
AreTileSums m a tile panel sums = (r j : ℕ) → r < min 3 (op_rows a - tile.row) → j < tile.lines → slice_index sums (r * tile.lines + j)
    ≡ panel_sum (op_table a) (tile.row + r) tile.inner panel.entries.now panel.height j % m
