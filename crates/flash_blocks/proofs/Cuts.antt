-- What the cut of a matrix has, that gathering it gives the matrix back, and that the blocks of a gathered matrix are those that it was
-- gathered from.
use Rattle.std.proofs.Common.{◌≡◌, ℕ, ◌+◌, ◌*◌, ◌/◌, ◌%◌, ◌<◌, ◌≤◌, get_or, sym, refl, ap, ◌∙◌, arith}
use Rattle.std.proofs.Math.Nat.{mod-lt, pos_of_ne-zero}
use Rattle.std.proofs.lemmas.Nat.{mul-add-lt, div-mul-add, mod-mul-add, div_below, div-add-mod'}
use Rattle.std.proofs.lemmas.List.FromFn.{get_or-map-range_with_len, length-map-range_with_len, fill_by_all}
use Rattle.residue_sums.specs.Sums.{part_count, part_length}
use Rattle.residue_sums.specs.Tables.{Table}
use Rattle.residue_sums.specs.Grids.{Grid, IsFull, HasEntries, entry}
use Rattle.residue_sums.proofs.Grids.{same_from_HasEntries}
use Rattle.residue_sums.proofs.Parts.{index_from_place, index_below, part_of_index, place_of_index}
use Rattle.flash_blocks.specs.Blocks.{block_of, gathered, grid_of}
use Rattle.flash_blocks.specs.Flashes.{BlockedGrid, HasShapes, IsBlock, block_count, cut_of, flash_block}
use Rattle.flash_blocks.proofs.Places.{IsBlock-entry}
use Rattle.flash_blocks.proofs.TableGrids.{HasEntries-grid_of, IsFull-grid_of}

module _ (b : ℕ) (g : Grid) where
  -- block (i, j) of a cut
  pub flash_block-cut : (i j : ℕ) → IsBlock (cut_of b g) i j → flash_block (cut_of b g) i j ≡ block_of b g i j
  flash_block-cut i j there =
      let q = part_count g.cols b in
      let below : i * q + j < block_count b g.rows g.cols = omega (arith, mul-add-lt i q j (part_count g.rows b) there.row there.col) in
      get_or-map-range_with_len (λ k. block_of b g (k / q) (k % q)) 0 (block_count b g.rows g.cols) (i * q + j) (i * q + j) (grid_of (λ r c. 0) 0 0) below (omega arith)
      ∙ rw (div-mul-add i q j there.col, mod-mul-add i q j there.col) refl

  pub HasShapes-cut : HasShapes (cut_of b g)
  HasShapes-cut = record {
    count = length-map-range_with_len (λ k. block_of b g (k / part_count g.cols b) (k % part_count g.cols b)) 0 (block_count b g.rows g.cols);
    shape = λ i j there. rw (flash_block-cut i j there) (record {
      rows = refl;
      cols = refl;
      full = IsFull-grid_of (λ r c. entry g (i * b + r) (j * b + c)) (part_length g.rows b i) (part_length g.cols b j);
    });
  }

  -- each entry stands in its block
  pub gathered-cut : (r c : ℕ) → 1 ≤ b → r < g.rows → c < g.cols → gathered b (flash_block (cut_of b g)) r c ≡ entry g r c
  gathered-cut r c size row col =
      let i = r / b in
      let j = c / b in
      let in_row = index_from_place g.rows b r size row in
      let in_col = index_from_place g.cols b c size col in
      ap (λ (h : Grid). entry h (r % b) (c % b)) (flash_block-cut i j (IsBlock-entry (cut_of b g) r c size row col))
      ∙ HasEntries-grid_of (λ x y. entry g (i * b + x) (j * b + y)) (part_length g.rows b i) (part_length g.cols b j) (r % b) (c % b) in_row.1 in_col.1
      ∙ rw (in_row.0, in_col.0) refl

  pub gather_of_cut : 1 ≤ b → IsFull g → grid_of (gathered b (flash_block (cut_of b g))) g.rows g.cols ≡ g
  gather_of_cut size full =
      let a : Table = gathered b (flash_block (cut_of b g)) in
      same_from_HasEntries (grid_of a g.rows g.cols) g (entry g) (IsFull-grid_of a g.rows g.cols) full refl refl
      (λ r c row col. HasEntries-grid_of a g.rows g.cols r c row col ∙ gathered-cut r c size row col) (λ r c row col. refl)

module _ (f : BlockedGrid) (size : 1 ≤ f.b) (shapes : HasShapes f) where
  abbrev table : Table
  table = gathered f.b (flash_block f)

  abbrev whole : Grid
  whole = grid_of table f.rows f.cols

  -- an entry of a block of the gathered matrix
  entry-block : (i j : ℕ) → HasEntries (block_of f.b whole i j) (entry (flash_block f i j))
  entry-block i j x y row col =
      let b = f.b in
      HasEntries-grid_of (λ r c. entry whole (i * b + r) (j * b + c)) (part_length f.rows b i) (part_length f.cols b j) x y row col
      ∙ HasEntries-grid_of table f.rows f.cols (i * b + x) (j * b + y) (index_below f.rows b i x row) (index_below f.cols b j y col)
      ∙ rw (part_of_index f.rows b i x row, part_of_index f.cols b j y col, place_of_index f.rows b i x row, place_of_index f.cols b j y col) refl

  block-gathered : (i j : ℕ) → IsBlock f i j → flash_block f i j ≡ block_of f.b whole i j
  block-gathered i j there =
      let shape = shapes.shape i j there in
      let full = IsFull-grid_of (λ r c. entry whole (i * f.b + r) (j * f.b + c)) (part_length f.rows f.b i) (part_length f.cols f.b j) in
      same_from_HasEntries (flash_block f i j) (block_of f.b whole i j) (entry (flash_block f i j)) shape.full full shape.rows shape.cols
      (λ x y row col. refl) (entry-block i j)

  -- the block at a place
  at_place : (k : ℕ) → k < block_count f.b f.rows f.cols
      → get_or f.blocks k (grid_of (λ r c. 0) 0 0) ≡ block_of f.b whole (k / part_count f.cols f.b) (k % part_count f.cols f.b)
  at_place k below =
      let q = part_count f.cols f.b in
      let pos : 0 < q = pos_of_ne-zero (λ e. let none : block_count f.b f.rows f.cols ≡ 0 = rw e (omega arith) in omega arith) in
      let there : IsBlock f (k / q) (k % q) = record { row = div_below k q (part_count f.rows f.b) pos below; col = mod-lt k pos } in
      ap (λ (x : ℕ). get_or f.blocks x (grid_of (λ r c. 0) 0 0)) (sym (div-add-mod' k q)) ∙ block-gathered (k / q) (k % q) there

  pub cut_of_gathered : cut_of f.b whole ≡ f
  cut_of_gathered =
      let blocks = fill_by_all (λ k. block_of f.b whole (k / part_count f.cols f.b) (k % part_count f.cols f.b)) f.blocks
      (block_count f.b f.rows f.cols) (grid_of (λ r c. 0) 0 0) shapes.count at_place in
      λ x. record { b = f.b; rows = f.rows; cols = f.cols; blocks = sym blocks x }
