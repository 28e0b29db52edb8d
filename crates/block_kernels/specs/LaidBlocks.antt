-- Blocks that lie in memory row by row: those of a store of matrices, and those that are cut out of a room of numbers.
use Rattle.std.specs.Prelude.{ℕ, ◌+◌, ◌*◌, ◌≤◌, List, length, map, take, drop, All}
use Rattle.residue_sums.specs.Grids.{Grid}
use Rattle.block_kernels.specs.declared.stored_blocks.Cut.{Cut}
use Rattle.block_kernels.specs.declared.stored_blocks.LaidBlock.{LaidBlock}
use Rattle.block_kernels.specs.declared.stored_blocks.Places.{Places}
use Rattle.block_kernels.specs.declared.stored_blocks.Places.TheVariants.{Store, Room}

-- a cut ends within a room of n numbers
abbrev pub IsInRoom : ℕ → Cut → Type 0
IsInRoom n cut = cut.at + cut.rows * cut.cols ≤ n

-- the block whose entries stand there
abbrev pub cut_grid : List ℕ → Cut → Grid
cut_grid numbers cut = record {
  rows = cut.rows;
  cols = cut.cols;
  entries = take (cut.rows * cut.cols) (drop cut.at numbers);
}

-- the block that lies so
abbrev pub laid_grid : LaidBlock → Grid
laid_grid laid = record { rows = laid.rows; cols = laid.cols; entries = laid.entries.now }

-- ---- blocks by number

abbrev pub grids_at : Places → List Grid
grids_at (Store matrices) = matrices.now
grids_at (Room entries cuts) = map (cut_grid entries.now) cuts.now

abbrev pub AreAt : Places → Type 0
AreAt (Store matrices) = Unit {0}
AreAt (Room entries cuts) = All (IsInRoom (length entries.now)) cuts.now
