-- Flashes: what a matrix that is cut into blocks is seen as, and which blocks the cut of a matrix has.
use Rattle.std.specs.Prelude.{◌≡◌, ℕ, ◌+◌, ◌*◌, ◌/◌, ◌%◌, ◌<◌, ◌≤◌, List, length, map, slice_index_or, slice_set}
use Rattle.std.specs.List.{range_with_len}
use Rattle.residue_sums.specs.Sums.{part_count, part_length}
use Rattle.residue_sums.specs.Grids.{Grid, IsFull}
use Rattle.flash_blocks.specs.Blocks.{grid_of, block_of}

-- a matrix of so many rows and columns under block size b, as its blocks row by row
pub record BlockedGrid : Type 0 where
  pub b : ℕ
  pub rows : ℕ
  pub cols : ℕ
  pub blocks : List Grid

-- how many blocks there are
abbrev pub block_count : ℕ → ℕ → ℕ → ℕ
block_count b rows cols = part_count rows b * part_count cols b

-- the block size is at least 1, and there are as many blocks as the rows and columns have parts
pub record IsFlash (f : BlockedGrid) : Type 0 where
  pub size : 1 ≤ f.b
  pub count : length f.blocks ≡ block_count f.b f.rows f.cols

-- there is a block (i, j)
pub record IsBlock (f : BlockedGrid) (i j : ℕ) : Type 0 where
  pub row : i < part_count f.rows f.b
  pub col : j < part_count f.cols f.b

-- the place of block (i, j) among the blocks
abbrev pub block_place : BlockedGrid → ℕ → ℕ → ℕ
block_place f i j = i * part_count f.cols f.b + j

-- block (i, j); an empty one where there is none
abbrev pub flash_block : BlockedGrid → ℕ → ℕ → Grid
flash_block f i j = slice_index_or f.blocks (block_place f i j) (grid_of (λ r c. 0) 0 0)

-- another block (i, j), and all else as it was
abbrev pub with_block : BlockedGrid → ℕ → ℕ → Grid → BlockedGrid
with_block f i j g = record { b = f.b; rows = f.rows; cols = f.cols; blocks = slice_set f.blocks (block_place f i j) g }

-- the cut of a matrix: its blocks under block size b, row by row
abbrev pub cut_of : ℕ → Grid → BlockedGrid
cut_of b g = record {
  b = b;
  rows = g.rows;
  cols = g.cols;
  blocks = map (λ k. block_of b g (k / part_count g.cols b) (k % part_count g.cols b)) (range_with_len 0 (block_count b g.rows g.cols));
}

-- the grid is full and has n rows and m columns
pub record HasShape (n m : ℕ) (g : Grid) : Type 0 where
  pub rows : g.rows ≡ n
  pub cols : g.cols ≡ m
  pub full : IsFull g

-- there are as many blocks as the cut of a matrix of these rows and columns has, and each has the shape of its parts
pub record HasShapes (f : BlockedGrid) : Type 0 where
  pub count : length f.blocks ≡ block_count f.b f.rows f.cols
  pub shape : (i j : ℕ) → IsBlock f i j → HasShape (part_length f.rows f.b i) (part_length f.cols f.b j) (flash_block f i j)
