-- Rectangles that lie in a list of numbers row by row, with so many numbers from one row to the next.
use Rattle.std.specs.Prelude.{◌≡◌, ℕ, zero, suc, ◌+◌, ◌*◌, ◌/◌, ◌%◌, ◌<◌, ◌≤◌, List, [], ◌∷◌, ◌++◌, slice_index}
use Rattle.residue_sums.specs.Grids.{Grid, IsFull, entry}

-- f 0, f 1, .., f (n - 1)
abbrev pub listed : (ℕ → ℕ) → ℕ → List ℕ
listed f zero = []
listed f (suc n) = listed f n ++ f n ∷ []

-- the rectangle of so many rows and columns whose row i begins at the place first + i * stride
abbrev pub rect : List ℕ → ℕ → ℕ → ℕ → ℕ → Grid
rect xs first stride rows cols = record {
  rows = rows;
  cols = cols;
  entries = listed (λ k. slice_index xs (first + k / cols * stride + k % cols)) (rows * cols);
}

-- each of its rows lies within n numbers, and no two rows overlap
pub record IsWithin (n first stride rows cols : ℕ) : Type 0 where
  pub reach : (i : ℕ) → i < rows → first + i * stride + cols ≤ n
  pub apart : cols ≤ stride

-- the block of n rows and k columns that begins in a row and a column of a grid, as a grid of its own
pub record IsBlockOf (whole : Grid) (row col n k : ℕ) (block : Grid) : Type 0 where
  pub rows : block.rows ≡ n
  pub cols : block.cols ≡ k
  pub full : IsFull block
  pub entries : (i j : ℕ) → i < n → j < k → entry block i j ≡ entry whole (row + i) (col + j)
