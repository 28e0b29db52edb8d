-- A block that is read, as code reads it by number, and a block of a list as a rectangle of its numbers.
use Rattle.std.proofs.Common.{◌≡◌, ℕ, ◌+◌, ◌*◌, ◌<◌, ◌≤◌, List, length, map, get_or, All, refl, sym, ◌∙◌, ap, subst, arith}
use Rattle.std.proofs.lemmas.List.{get_or-map, get_or_default}
use Rattle.residue_sums.specs.Grids.{Grid, IsFull, AreResidues}
use Rattle.equation.proofs.OneSolution.{AreResidues-nth}
use Rattle.equation.specs.Jobs.{nth_grid, no_grid}
use Rattle.matrix_parts.specs.Rects.{rect, IsWithin, IsBlockOf}
use Rattle.matrix_parts.proofs.Rects.{IsBlockOf-rect, IsWithin-block, IsWithin-whole, rect-whole_grid}

-- a block that is read by number
pub read_is : (store : List Grid) (reads : List ℕ) (at : ℕ) (d : Grid) → at < length reads → get_or reads at 0 < length store
    → get_or store (get_or reads at 0) d ≡ nth_grid (map (nth_grid store) reads) at
read_is store reads at d below within =
    get_or_default store (get_or reads at 0) d no_grid within ∙ sym (get_or-map (nth_grid store) reads at 0 no_grid below)

-- it holds residues where the store does
pub read_holds : (m : ℕ) (store : List Grid) (number : ℕ) (d : Grid) → number < length store → All (AreResidues m) store → AreResidues m (get_or store number d)
read_holds m store number d within all = subst (AreResidues m) (sym (get_or_default store number d no_grid within)) (AreResidues-nth m store number all)

-- a block of a whole matrix
module _ (g : Grid) (xs : List ℕ) (row col rows cols : ℕ) (full : IsFull g) (xs_are : xs ≡ g.entries) (rows_in : row + rows ≤ g.rows) (cols_in : col + cols ≤ g.cols) where
  pub within_list : IsWithin (length xs) (row * g.cols + col) g.cols rows cols
  within_list =
      let count : length xs ≡ g.rows * g.cols = ap (λ (l : List ℕ). length l) xs_are ∙ full in
      IsWithin-block xs 0 g.cols g.rows g.cols row col rows cols (row * g.cols + col) rows_in cols_in (λ some. omega arith)
      (rw count (IsWithin-whole g.rows g.cols))

  pub block_of_list : IsBlockOf g row col rows cols (rect xs (row * g.cols + col) g.cols rows cols)
  block_of_list =
      subst (λ (whole : Grid). IsBlockOf whole row col rows cols (rect xs (row * g.cols + col) g.cols rows cols)) (rect-whole_grid g xs g.rows g.cols full xs_are refl refl)
      (IsBlockOf-rect xs 0 g.cols g.rows g.cols row col rows cols (row * g.cols + col) rows_in cols_in (λ some. omega arith))
