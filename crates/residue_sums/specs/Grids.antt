-- Grids: what a matrix is seen as, a number of rows, a number of columns, and the entries row by row.
use Rattle.std.specs.Prelude.{◌≡◌, ℕ, ◌+◌, ◌*◌, ◌<◌, List, length, slice_index, slice_set, All}
use Rattle.residue_sums.specs.Tables.{Table}

pub record Grid : Type 0 where
  pub rows : ℕ
  pub cols : ℕ
  pub entries : List ℕ

-- one entry for each place
abbrev pub IsFull : Grid → Type 0
IsFull g = length g.entries ≡ g.rows * g.cols

-- the entry in row i and column j
abbrev pub entry : Grid → Table
entry g i j = slice_index g.entries (i * g.cols + j)

-- the grid with v in row i and column j
abbrev pub with_entry : Grid → ℕ → ℕ → ℕ → Grid
with_entry g i j v = record { rows = g.rows; cols = g.cols; entries = slice_set g.entries (i * g.cols + j) v }

-- each entry is below m
abbrev pub AreResidues : ℕ → Grid → Type 0
AreResidues m g = All (λ x. x < m) g.entries

-- within its rows and columns the grid has the entries of the table
abbrev pub HasEntries : Grid → Table → Type 0
HasEntries g a = (i j : ℕ) → i < g.rows → j < g.cols → entry g i j ≡ a i j
