-- A slice as the entries of a matrix, row by row.
use Rattle.std.specs.Prelude.{ℕ, List}
use Rattle.residue_sums.specs.Grids.{Grid, entry}
use Rattle.residue_sums.specs.Tables.{Table}

abbrev pub grid : ℕ → ℕ → List ℕ → Grid
grid rows cols xs = record { rows = rows; cols = cols; entries = xs }

-- the entry in row i and column j, of a matrix with so many columns
abbrev pub entries : ℕ → ℕ → List ℕ → Table
entries rows cols xs = entry (grid rows cols xs)
