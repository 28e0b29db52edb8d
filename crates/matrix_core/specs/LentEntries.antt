-- What a matrix ends as, once its entries were lent to be written.
use Rattle.std.specs.Prelude.{List, ℕ, length}
use Rattle.std.specs.Borrow.{MutBor, Fml, Lends, Array, u64 as word}
use Rattle.std.specs.List.{refill}
use Rattle.residue_sums.specs.Grids.{Grid}
use Rattle.matrix_core.specs.contracts.matrix.Matrix.{the_row}

-- a grid with other entries: as many of these, filled up from its own where they are too few
abbrev pub with_entries : Grid → List ℕ → Grid
with_entries g xs = record { rows = g.rows; cols = g.cols; entries = refill (length g.entries) g.entries xs }

-- the matrix ends with the entries that the slice ends with
abbrev pub LendsEntries : MutBor Grid → MutBor (List ℕ) → Fml
LendsEntries m entries = Lends the_row (Array word 0) m entries (with_entries m.now)
