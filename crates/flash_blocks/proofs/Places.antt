-- The places of blocks among the blocks of a flash, and where parts begin. Cited by each function that reads or writes a block.
use Rattle.std.proofs.Common.{◌≡◌, ◌≢◌, ◌⊎◌, inl, inr, ℕ, ◌+◌, ◌-◌, ◌*◌, ◌/◌, ◌<◌, ◌≤◌, length, get_or, get_or-set_other, ap, ◌∙◌, arith}
use Rattle.std.specs.Int.{div_ceil}
use Rattle.std.proofs.Math.Nat.{div-mul-le_self, mul-le-mul_right}
use Rattle.std.proofs.lemmas.Nat.{mul-add-lt, same_from_place}
use Rattle.std.proofs.lemmas.List.{get_or_read}
use Rattle.residue_sums.specs.Sums.{part_count}
use Rattle.residue_sums.specs.Grids.{Grid}
use Rattle.residue_sums.proofs.Parts.{part_below_count, div_ceil_is_part_count}
use Rattle.flash_blocks.specs.Blocks.{grid_of}
use Rattle.flash_blocks.specs.Flashes.{BlockedGrid, IsFlash, IsBlock, block_place, flash_block, with_block}

-- the number of parts, as code counts them with an m that is n and a c that is b
pub parts_counted : (n b m c count : ℕ) → 1 ≤ b → m ≡ n → c ≡ b → count ≡ div_ceil m c → count ≡ part_count n b
parts_counted n b m c count size length_is size_is counted = counted ∙ rw (length_is, size_is) (div_ceil_is_part_count n b size)

-- a part begins within the range
pub part_begins_within : (n b p : ℕ) → p < part_count n b → p * b < n
part_begins_within n b p below =
    omega (arith, mul-le-mul_right {m = p + 1} {n = part_count n b} b (omega arith), div-mul-le_self (n + b - 1) b)

-- the blocks that have row r of the whole matrix
pub IsBlock-row : (f : BlockedGrid) (r j : ℕ) → 1 ≤ f.b → r < f.rows → j < part_count f.cols f.b → IsBlock f (r / f.b) j
IsBlock-row f r j size row col = record { row = part_below_count f.rows f.b r size row; col = col }

-- the block of an entry
pub IsBlock-entry : (f : BlockedGrid) (r c : ℕ) → 1 ≤ f.b → r < f.rows → c < f.cols → IsBlock f (r / f.b) (c / f.b)
IsBlock-entry f r c size row col = IsBlock-row f r (c / f.b) size row (part_below_count f.cols f.b c size col)

-- a block that there is has its place within the blocks
pub block_place-below : (f : BlockedGrid) (i j : ℕ) → IsFlash f → IsBlock f i j → block_place f i j < length f.blocks
block_place-below f i j flash there =
    omega (arith, mul-add-lt i (part_count f.cols f.b) j (part_count f.rows f.b) there.row there.col, flash.count)

-- what is read at a block's place is the block
pub flash_block-read : (f : BlockedGrid) (i j at : ℕ) (g : Grid) → at ≡ block_place f i j → at < length f.blocks → g ≡ get_or f.blocks at g → g ≡ flash_block f i j
flash_block-read f i j at g place bound read =
    get_or_read f.blocks at g bound read (grid_of (λ r c. 0) 0 0) ∙ ap (λ (k : ℕ). get_or f.blocks k (grid_of (λ r c. 0) 0 0)) place

-- a block that isn't written is as it was
pub flash_block-with_block : (f : BlockedGrid) (i j k l : ℕ) (g : Grid) → IsBlock f i j → IsBlock f k l → (k ≢ i) ⊎ (l ≢ j)
    → flash_block (with_block f i j g) k l ≡ flash_block f k l
flash_block-with_block f i j k l g written read other =
    let apart : block_place f k l ≢ block_place f i j = λ e.
    let same = same_from_place k l i j (part_count f.cols f.b) read.col written.col e in elim other [ inl h ↦ h same.0 | inr h ↦ h same.1 ] in
    get_or-set_other f.blocks (block_place f i j) (block_place f k l) g (grid_of (λ r c. 0) 0 0) apart
