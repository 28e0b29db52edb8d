-- The matrices that are made from nothing.
use Rattle.std.specs.Prelude.{◌≡◌, ℕ, ◌*◌, replicate}
use Rattle.residue_sums.specs.Tables.{identity}
use Rattle.residue_sums.specs.Grids.{Grid, IsFull, HasEntries}

-- zeros everywhere
abbrev pub zero_grid : ℕ → ℕ → Grid
zero_grid rows cols = record { rows = rows; cols = cols; entries = replicate (rows * cols) 0 }

-- the identity matrix of size n
pub record IsIdentity (n : ℕ) (g : Grid) : Type 0 where
  pub rows : g.rows ≡ n
  pub cols : g.cols ≡ n
  pub full : IsFull g
  pub entries : HasEntries g identity
