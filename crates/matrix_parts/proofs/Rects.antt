-- What a rectangle in a list has at each place, and what a write leaves.
use Rattle.std.proofs.Common.{◌≡◌, ◌≢◌, ℕ, zero, suc, ◌+◌, ◌-◌, ◌*◌, ◌/◌, ◌%◌, ◌<◌, ◌≤◌, ◌⊎◌, List, [], ◌∷◌, ◌++◌, inl, inr, length, get_or, set, take, drop, refl, sym, ap, ◌∙◌, arith, length-append, length-set, get_or-set_same, get_or-set_other, get_or-take, get_or-drop}
use Rattle.std.proofs.Math.Seq.{get_or-append_seam}
use Rattle.std.proofs.lemmas.Bool.{cases_eq}
use Rattle.std.proofs.lemmas.Nat.{mul-add-lt, same_from_place, div-mul-add, mod-mul-add}
use Rattle.std.proofs.lemmas.List.{get_or_append_left}
use Rattle.std.proofs.lemmas.Nat.{row_fits}
use Rattle.residue_sums.specs.Grids.{Grid, IsFull, entry, with_entry}
use Rattle.residue_sums.proofs.Grids.{same_from_HasEntries, entry-with_entry_same, entry-with_entry_other_row, entry-with_entry_other_col, IsFull-with_entry}
use Rattle.matrix_parts.specs.Rects.{listed, rect, IsWithin, IsBlockOf}

pub length-listed : (f : ℕ → ℕ) (n : ℕ) → length (listed f n) ≡ n
length-listed f zero = refl
length-listed f (suc n) = omega (arith, length-append (listed f n) (f n ∷ []), length-listed f n)

pub get_or-listed : (f : ℕ → ℕ) (n k : ℕ) → k < n → get_or (listed f n) k 0 ≡ f k
get_or-listed f zero k below = absurd (omega arith)
get_or-listed f (suc n) k below = elim (cases_eq k n) [
  | inl same ↦ rw same (seam ∙ refl)
  | inr other ↦ get_or_append_left (listed f n) (f n ∷ []) 0 k (omega (arith, length-listed f n)) ∙ get_or-listed f n k (omega arith)
]
  where
    seam : get_or (listed f n ++ f n ∷ []) n 0 ≡ f n
    seam = ap (λ (p : ℕ). get_or (listed f n ++ f n ∷ []) p 0) (sym (length-listed f n)) ∙ get_or-append_seam (listed f n) (f n) [] 0

module _ (xs : List ℕ) (first stride rows cols : ℕ) where
  pub IsFull-rect : IsFull (rect xs first stride rows cols)
  IsFull-rect = length-listed (λ k. get_or xs (first + k / cols * stride + k % cols) 0) (rows * cols)

  pub entry-rect : (i j : ℕ) → i < rows → j < cols → entry (rect xs first stride rows cols) i j ≡ get_or xs (first + i * stride + j) 0
  entry-rect i j row col =
      get_or-listed (λ k. get_or xs (first + k / cols * stride + k % cols) 0) (rows * cols) (i * cols + j) (omega (arith, mul-add-lt i cols j rows row col))
      ∙ ap (λ (p : ℕ). get_or xs p 0) (place (div-mul-add i cols j col) (mod-mul-add i cols j col))
    where
      place : {a b : ℕ} → a ≡ i → b ≡ j → first + a * stride + b ≡ first + i * stride + j
      place e e' = rw (e, e') refl

-- two full grids of the same sizes with the same entries are one
pub same_grid : (g h : Grid) → IsFull g → IsFull h → g.rows ≡ h.rows → g.cols ≡ h.cols → ((i j : ℕ) → i < g.rows → j < g.cols → entry g i j ≡ entry h i j) → g ≡ h
same_grid g h g_full h_full rows cols each = same_from_HasEntries g h (entry h) g_full h_full rows cols each (λ i j row col. refl)

-- a list that is full, as the rectangle of all of it
pub rect-whole : (xs : List ℕ) (rows cols : ℕ) → length xs ≡ rows * cols → rect xs 0 cols rows cols ≡ record { rows = rows; cols = cols; entries = xs }
rect-whole xs rows cols full =
    same_grid (rect xs 0 cols rows cols) (record { rows = rows; cols = cols; entries = xs }) (IsFull-rect xs 0 cols rows cols) full refl refl
    (λ i j row col. entry-rect xs 0 cols rows cols i j row col ∙ ap (λ (p : ℕ). get_or xs p 0) (omega arith))

pub rect-whole_grid : (g : Grid) (xs : List ℕ) (rows cols : ℕ) → IsFull g → xs ≡ g.entries → rows ≡ g.rows → cols ≡ g.cols → rect xs 0 cols rows cols ≡ g
rect-whole_grid g xs rows cols full xs_are rows_are cols_are = rw (xs_are, rows_are, cols_are) (rect-whole g.entries g.rows g.cols full)

pub IsWithin-whole : (rows cols : ℕ) → IsWithin (rows * cols) 0 cols rows cols
IsWithin-whole rows cols = record { reach = λ i row. omega (arith, row_fits i cols rows cols row (omega arith)); apart = omega arith }

-- a row of a rectangle, cut out of the list
pub get_or-row : (xs : List ℕ) (first stride rows cols i j : ℕ) → i < rows → j < cols
    → get_or (take (first + i * stride + cols - (first + i * stride)) (drop (first + i * stride) xs)) j 0 ≡ entry (rect xs first stride rows cols) i j
get_or-row xs first stride rows cols i j row col =
    let width : first + i * stride + cols - (first + i * stride) ≡ cols = omega arith in
    rw (width, get_or-take, get_or-drop) (sym (entry-rect xs first stride rows cols i j row col))

-- what a write of one entry leaves
module _ (xs : List ℕ) (first stride rows cols : ℕ) (within : IsWithin (length xs) first stride rows cols) (i j v : ℕ) (row : i < rows) (col : j < cols) where
  abbrev at : ℕ
  at = first + i * stride + j

  at_below : at < length xs
  at_below = omega (arith, within.reach i row)

  written : (a b : ℕ) → a < rows → b < cols → entry (rect (set xs at v) first stride rows cols) a b ≡ entry (with_entry (rect xs first stride rows cols) i j v) a b
  written a b a_in b_in = entry-rect (set xs at v) first stride rows cols a b a_in b_in ∙ go (cases_eq a i) (cases_eq b j)
    where
      g : Grid
      g = rect xs first stride rows cols

      full : IsFull g
      full = IsFull-rect xs first stride rows cols

      elsewhere : ((a ≡ i) × (b ≡ j) → ⊥) → get_or (set xs at v) (first + a * stride + b) 0 ≡ entry g a b
      elsewhere apart =
          get_or-set_other xs at (first + a * stride + b) v 0 (λ e. apart (same_from_place a b i j stride (omega (arith, within.apart)) (omega (arith, within.apart)) (omega (arith, e))))
          ∙ sym (entry-rect xs first stride rows cols a b a_in b_in)

      go : (a ≡ i) ⊎ (a ≢ i) → (b ≡ j) ⊎ (b ≢ j) → get_or (set xs at v) (first + a * stride + b) 0 ≡ entry (with_entry g i j v) a b
      go (inl same_row) (inl same_col) = rw (same_row, same_col) (get_or-set_same xs at v 0 at_below ∙ sym (entry-with_entry_same g i j v full row col))
      go (inr apart) _ = elsewhere (λ e. apart e.0) ∙ sym (entry-with_entry_other_row g i j v a b col b_in apart)
      go (inl _) (inr apart) = elsewhere (λ e. apart e.1) ∙ sym (entry-with_entry_other_col g i j v a b col b_in apart)

  pub rect-set : rect (set xs at v) first stride rows cols ≡ with_entry (rect xs first stride rows cols) i j v
  rect-set = same_grid (rect (set xs at v) first stride rows cols) (with_entry (rect xs first stride rows cols) i j v)
      (IsFull-rect (set xs at v) first stride rows cols) (IsFull-with_entry (rect xs first stride rows cols) i j v (IsFull-rect xs first stride rows cols)) refl refl written

  pub IsWithin-set : IsWithin (length (set xs at v)) first stride rows cols
  IsWithin-set = rw length-set within

-- a block of a rectangle is the rectangle that begins where the block does
module _ (xs : List ℕ) (first stride rows cols row col n k at : ℕ) (rows_in : row + n ≤ rows) (cols_in : col + k ≤ cols) (begins : 0 < n → at ≡ first + row * stride + col) where
  pub IsWithin-block : IsWithin (length xs) first stride rows cols → IsWithin (length xs) at stride n k
  IsWithin-block within = record {
    reach = λ i below. omega (arith, within.reach (row + i) (omega arith), begins (omega arith));
    apart = omega (arith, within.apart);
  }

  pub IsBlockOf-rect : IsBlockOf (rect xs first stride rows cols) row col n k (rect xs at stride n k)
  IsBlockOf-rect = record {
    rows = refl;
    cols = refl;
    full = IsFull-rect xs at stride n k;
    entries = λ i j i_in j_in.
        entry-rect xs at stride n k i j i_in j_in
        ∙ ap (λ (p : ℕ). get_or xs p 0) (omega (arith, begins (omega arith)))
        ∙ sym (entry-rect xs first stride rows cols (row + i) (col + j) (omega arith) (omega arith));
  }
