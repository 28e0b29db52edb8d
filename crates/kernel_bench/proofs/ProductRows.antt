-- A product that is added to a matrix row by row.
use Rattle.std.proofs.Common.{◌≡◌, ◌≢◌, ℕ, ◌+◌, ◌-◌, ◌*◌, ◌%◌, ◌<◌, ◌≤◌, ◌^◌, ◌⊎◌, inl, inr, List, length, get_or, take, drop, All, refl, ap, ◌∙◌, arith, get_or-take, get_or-drop, length-take, length-drop}
use Rattle.std.proofs.lemmas.Bool.{cases_eq, cases_order}
use Rattle.std.proofs.lemmas.Nat.{mul-lt, mul-add-lt, row_fits}
use Rattle.std.proofs.lemmas.List.Elements.{All-get_or}
use Rattle.residue_sums.specs.Sums.{sum_below}
use Rattle.residue_sums.specs.Tables.{product, times}
use Rattle.residue_sums.specs.Grids.{Grid, IsFull, AreResidues, entry}
use Rattle.residue_sums.proofs.Sums.{sum_below-same, sum_below-le}
use Rattle.residue_sums.proofs.Grids.{entry_below}
use Rattle.kernel_bench.specs.Squares.{HasProduct}

-- row i of a grid, cut out of its entries
abbrev pub row_of : Grid → ℕ → List ℕ
row_of g i = take (i * g.cols + g.cols - i * g.cols) (drop (i * g.cols) g.entries)

width_of : (start width : ℕ) → start + width - start ≡ width
width_of start width = omega arith

pub get_or-row_of : (g : Grid) (i j : ℕ) → j < g.cols → get_or (row_of g i) j 0 ≡ entry g i j
get_or-row_of g i j col = rw (width_of (i * g.cols) g.cols, get_or-take, get_or-drop) refl

pub length-row_of : (g : Grid) (i : ℕ) → IsFull g → i < g.rows → length (row_of g i) ≡ g.cols
length-row_of g i full row =
    let fits : i * g.cols + g.cols ≤ g.rows * g.cols = row_fits i g.cols g.rows g.cols row (omega arith) in
    simp (length-take, length-drop) (omega arith)

-- the product of two numbers below 2^32
small_product : (x y : ℕ) → x < 2 ^ 32 → y < 2 ^ 32 → x * y ≤ 2 ^ 64
small_product x y x_small y_small = omega (arith, mul-lt x y (2 ^ 32) (2 ^ 32) x_small y_small)

-- the sum of so many products at an entry of a row
module _ (row : List ℕ) (b : Grid) (full : IsFull b) (inner : b.rows ≡ length row) (row_small : All (λ x. x < 2 ^ 32) row) (b_small : AreResidues (2 ^ 32) b) (j : ℕ) (col : j < b.cols) where
  factor_product : (k : ℕ) → k < length row → get_or row k 0 * entry b k j ≤ 2 ^ 64
  factor_product k within = small_product (get_or row k 0) (entry b k j)
      (All-get_or (λ x. x < 2 ^ 32) row k 0 within row_small)
      (entry_below (2 ^ 32) b k j full b_small (omega arith) col)

  row_sum_le : (n : ℕ) → n ≤ length row → sum_below (λ k. get_or row k 0 * entry b k j) n ≤ n * 2 ^ 64
  row_sum_le n le = sum_below-le (λ k. get_or row k 0 * entry b k j) n (2 ^ 64) (λ k within. factor_product k (omega arith))

  -- one more product is still below 2^128
  pub row_sum_room : (k s y : ℕ) → k < length row → length row < 2 ^ 32 → s ≡ sum_below (λ k. get_or row k 0 * entry b k j) k → y ≡ entry b k j → s + get_or row k 0 * y < 2 ^ 128
  row_sum_room k s y within few s_is y_is =
      let product : get_or row k 0 * y ≤ 2 ^ 64 = rw y_is (factor_product k within) in
      let so_far : s ≤ k * 2 ^ 64 = rw s_is (row_sum_le k (omega arith)) in
      omega arith

-- the sums of row i of the product of two grids
pub row_sums_are : (first second : Grid) (i : ℕ) (sums : List ℕ) → IsFull first → i < first.rows
    → ((j : ℕ) → j < second.cols → get_or sums j 0 ≡ sum_below (λ k. get_or (row_of first i) k 0 * entry second k j) (length (row_of first i)))
    → (j : ℕ) → j < second.cols → get_or sums j 0 ≡ product first.cols (entry first) (entry second) i j
row_sums_are first second i sums full row are j col =
    are j col ∙ rw (length-row_of first i full row) (sum_below-same (λ k. get_or (row_of first i) k 0 * entry second k j) (λ k. entry first i k * entry second k j) first.cols
    (λ k within. ap (λ x. x * entry second k j) (get_or-row_of first i k within)))

-- a place in another row stands before row i or behind it
other_place : (a b i cols : ℕ) → a ≢ i → b < cols → (a * cols + b < i * cols) ⊎ (i * cols + cols ≤ a * cols + b)
other_place a b i cols ne col = elim (cases_order a i) [
  | inl same ↦ absurd (ne same)
  | inr (inl before) ↦ inl (omega (arith, mul-add-lt a cols b i before col))
  | inr (inr behind) ↦ inr (omega (arith, row_fits i cols a cols behind (omega arith)))
]

-- row i is added
module _ (m : ℕ) (first second : Grid) (start : List ℕ) (i : ℕ) (old new : List ℕ) (so_far : HasProduct m i first second start old)
    (here : (j : ℕ) → j < second.cols → get_or new (i * second.cols + j) 0
    ≡ (get_or old (i * second.cols + j) 0 + times m first.cols (entry first) (entry second) i j) % m)
    (others : (p : ℕ) → (p < i * second.cols) ⊎ (i * second.cols + second.cols ≤ p) → get_or new p 0 ≡ get_or old p 0) where
  added_here : (j : ℕ) → j < second.cols
      → get_or new (i * second.cols + j) 0 ≡ (get_or start (i * second.cols + j) 0 + times m first.cols (entry first) (entry second) i j) % m
  added_here j col = rw (so_far.kept i j col (omega arith)) at (here j col)

  other_row : (a j : ℕ) → j < second.cols → a ≢ i → get_or new (a * second.cols + j) 0 ≡ get_or old (a * second.cols + j) 0
  other_row a j col ne = others (a * second.cols + j) (other_place a j i second.cols ne col)

  pub HasProduct-row : length new ≡ length old → HasProduct m (i + 1) first second start new
  HasProduct-row same_length = record {
    len = same_length ∙ so_far.len;
    done = λ a j row col. elim (cases_eq a i) [
      | inl same ↦ rw same (added_here j col)
      | inr ne ↦ other_row a j col ne ∙ so_far.done a j (omega arith) col
    ];
    kept = λ a j col behind. other_row a j col (λ e. omega arith) ∙ so_far.kept a j col (omega arith);
  }
