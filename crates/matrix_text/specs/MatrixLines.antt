-- A matrix as lines of words, and which lines of a text spell one.
use Rattle.std.specs.Prelude.{◌≡◌, ℕ, zero, suc, ◌*◌, ◌≤◌, List, [], ◌∷◌, ◌++◌, take, drop, codes, decimal, map, IsTrue, ◌==◌, if◌then◌else◌}
use Rattle.residue_sums.specs.Grids.{Grid, IsFull, AreResidues}
use Rattle.text_scan.specs.Lines.{Line}
use Rattle.text_scan.specs.Words.{is_name}

-- so many rows, each a line of so many entries
abbrev pub row_lines : ℕ → ℕ → List ℕ → List (List (List ℕ))
row_lines zero cols entries = []
row_lines (suc rows) cols entries = map decimal (take cols entries) ∷ row_lines rows cols (drop cols entries)

-- a line for each row, and `end`; with no columns there are no lines of rows
abbrev pub grid_lines : Grid → List (List (List ℕ))
grid_lines g = (if g.cols == 0 then [] else row_lines g.rows g.cols g.entries) ++ (codes "end" ∷ []) ∷ []

-- the matrix under its name: its rows and columns, its rows, and `end`
abbrev pub matrix_lines : List ℕ → Grid → List (List (List ℕ))
matrix_lines name g = (codes "matrix" ∷ name ∷ decimal g.rows ∷ decimal g.cols ∷ []) ∷ grid_lines g

-- how many rows and columns a matrix may have
abbrev pub size_limit : ℕ
size_limit = 1024

-- the first lines are those of the matrix with entries below m, which has room for its entries; rest are the others
pub record SpellsMatrix (m room : ℕ) (lines : List Line) (name : List ℕ) (g : Grid) (rest : List Line) : Type 0 where
  pub text : (own : List Line) × (lines ≡ own ++ rest) × (map (λ line. line.words) own ≡ matrix_lines name g)
  pub named : IsTrue (is_name name)
  pub rows : g.rows ≤ size_limit
  pub cols : g.cols ≤ size_limit
  pub fits : g.rows * g.cols ≤ room
  pub full : IsFull g
  pub residues : AreResidues m g

-- the first lines are the rows of the matrix of so many rows and columns with entries below m, and `end`; rest are the
-- others
pub record SpellsRows (m rows cols : ℕ) (lines : List Line) (g : Grid) (rest : List Line) : Type 0 where
  pub text : (own : List Line) × (lines ≡ own ++ rest) × (map (λ line. line.words) own ≡ grid_lines g)
  pub as_many_rows : g.rows ≡ rows
  pub as_many_cols : g.cols ≡ cols
  pub full : IsFull g
  pub residues : AreResidues m g
