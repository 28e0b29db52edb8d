-- Rectangles of blocks.
use Rattle.std.specs.Prelude.{◌≡◌, ℕ, ◌+◌, ◌≤◌}
use Rattle.residue_sums.specs.Grids.{Grid, entry}
use Rattle.flash_blocks.specs.Blocks.{grid_of}
use Rattle.block_store.specs.declared.rect.Rect.{Rect}

-- the rectangle lies within so many rows and columns
pub record IsInside (part : Rect) (rows cols : ℕ) : Type 0 where
  pub rows_in : part.row + part.rows ≤ rows
  pub cols_in : part.col + part.cols ≤ cols

-- what the grid has in the rectangle
abbrev pub part_of : Grid → Rect → Grid
part_of g part = grid_of (λ i j. entry g (part.row + i) (part.col + j)) part.rows part.cols

-- the grid has the rectangle's rows and columns
pub record HasSizeOf (part : Rect) (g : Grid) : Type 0 where
  pub rows : g.rows ≡ part.rows
  pub cols : g.cols ≡ part.cols
