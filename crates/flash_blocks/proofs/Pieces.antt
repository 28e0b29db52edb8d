-- Pieces of rows, which blocks are copied and gathered by.
use Rattle.std.proofs.Common.{◌≡◌, ℕ, ◌+◌, ◌*◌, ◌/◌, ◌%◌, ◌<◌, ◌≤◌, ◌++◌, min, length, get_or, ap, refl, ◌∙◌, zero-add, arith}
use Rattle.std.proofs.Math.Nat.{mul-le-mul_right}
use Rattle.std.specs.List.{between}
use Rattle.residue_sums.specs.Sums.{part_length}
use Rattle.residue_sums.specs.Grids.{Grid, IsFull, entry}
use Rattle.residue_sums.proofs.Parts.{index_from_place, part_of_index, place_of_index}
use Rattle.flash_blocks.specs.Blocks.{gathered}
use Rattle.flash_blocks.specs.Flashes.{BlockedGrid, HasShapes, IsBlock, flash_block}
use Rattle.flash_blocks.proofs.FirstRows.{between-map, first_items, map-append}
use Rattle.flash_blocks.proofs.Places.{part_begins_within}

module _ (g : Grid) (r c n : ℕ) (full : IsFull g) (row : r < g.rows) (within : c + n ≤ g.cols) where
  -- n entries of row r from column c on lie within the entries
  pub piece_within : r * g.cols + c + n ≤ length g.entries
  piece_within = omega (arith, full, mul-le-mul_right {m = r + 1} {n = g.rows} g.cols (omega arith))

  pub piece_items : between (r * g.cols + c) (r * g.cols + c + n) g.entries ≡ first_items (λ k. entry g r (c + k)) n
  piece_items = between-map 0 g.entries (r * g.cols + c) n (λ k. entry g r (c + k)) piece_within
      (λ k below. ap (λ (x : ℕ). get_or g.entries x 0) (omega arith))

-- row r of a gathered matrix, where part j of the columns is next
module _ (f : BlockedGrid) (r j : ℕ) (size : 1 ≤ f.b) (shapes : HasShapes f) (there : IsBlock f (r / f.b) j) (row : r < f.rows) where
  abbrev next : Grid
  next = flash_block f (r / f.b) j

  -- the row is one of the block
  pub row_of_block : r % f.b < next.rows
  row_of_block = rw (shapes.shape (r / f.b) j there).rows (index_from_place f.rows f.b r size row).1

  -- the block's row goes behind the parts before it
  pub row_more : first_items (gathered f.b (flash_block f) r) (min (j * f.b) f.cols) ++ first_items (λ k. entry next (r % f.b) (0 + k)) next.cols
      ≡ first_items (gathered f.b (flash_block f) r) (min ((j + 1) * f.b) f.cols)
  row_more =
      let width : next.cols ≡ part_length f.cols f.b j = (shapes.shape (r / f.b) j there).cols in
      let begins : j * f.b < f.cols = part_begins_within f.cols f.b j there.col in
      let before : min (j * f.b) f.cols ≡ j * f.b = omega arith in
      let each : (c : ℕ) → c < next.cols → gathered f.b (flash_block f) r (j * f.b + c) ≡ entry next (r % f.b) (0 + c) = λ c below.
      let inside : c < part_length f.cols f.b j = rw width at below in
      rw (part_of_index f.cols f.b j c inside, place_of_index f.cols f.b j c inside, zero-add) refl in
      let after : j * f.b + next.cols ≡ min ((j + 1) * f.b) f.cols = omega arith in
      let row = gathered f.b (flash_block f) r in
      rw before (map-append row (λ k. entry next (r % f.b) (0 + k)) (j * f.b) next.cols each ∙ ap (first_items row) after)
