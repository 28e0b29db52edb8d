-- The grid with the entries of a table. Cited where a block or a gathered matrix is read.
use Rattle.std.proofs.Common.{ℕ, ◌+◌, ◌*◌, ◌/◌, ◌%◌, ◌<◌, refl, ◌∙◌, arith}
use Rattle.std.proofs.lemmas.Nat.{mul-add-lt, div-mul-add, mod-mul-add}
use Rattle.std.proofs.lemmas.List.FromFn.{get_or-map-range_with_len, length-map-range_with_len}
use Rattle.residue_sums.specs.Tables.{Table}
use Rattle.residue_sums.specs.Grids.{IsFull, HasEntries}
use Rattle.flash_blocks.specs.Blocks.{grid_of}

module _ (a : Table) (rows cols : ℕ) where
  pub IsFull-grid_of : IsFull (grid_of a rows cols)
  IsFull-grid_of = length-map-range_with_len (λ k. a (k / cols) (k % cols)) 0 (rows * cols)

  pub HasEntries-grid_of : HasEntries (grid_of a rows cols) a
  HasEntries-grid_of i j row col =
      let below : i * cols + j < rows * cols = omega (arith, mul-add-lt i cols j rows row col) in
      get_or-map-range_with_len (λ k. a (k / cols) (k % cols)) 0 (rows * cols) (i * cols + j) (i * cols + j) 0 below (omega arith)
      ∙ rw (div-mul-add i cols j col, mod-mul-add i cols j col) refl
