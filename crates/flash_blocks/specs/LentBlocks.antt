-- What a flash ends as, once one of its blocks was lent to be written.
use Rattle.std.specs.Prelude.{ℕ}
use Rattle.std.specs.Borrow.{MutBor, Fml, Lends}
use Rattle.residue_sums.specs.Grids.{Grid}
use Rattle.matrix_core.specs.contracts.matrix.Matrix as matrix
use Rattle.flash_blocks.specs.Flashes.{BlockedGrid, with_block}
use Rattle.flash_blocks.specs.contracts.flash.Flash as flash

-- the flash ends with the block that the matrix ends as, and with all other blocks as they are
abbrev pub LendsBlock : MutBor BlockedGrid → ℕ → ℕ → MutBor Grid → Fml
LendsBlock f i j block = Lends flash.the_row matrix.the_row f block (with_block f.now i j)
