-- The order of the entries in a loop over rows and, within a row, over columns, each of them ascending or descending. Cited by the
-- kernels, whose loops go so.
use Rattle.std.proofs.Common.{◌≡◌, ◌≢◌, ℕ, suc, ◌+◌, ◌*◌, ◌-◌, ◌<◌, ◌≤◌, ◌⊎◌, inl, inr, arith}
use Rattle.std.proofs.Math.Nat.{mul-le-mul_right}
use Rattle.std.proofs.lemmas.Nat.{same_from_place}
use Rattle.residue_sums.specs.Tables.{Table, transpose}
use Rattle.structure_rules.specs.declared.Structure.{Structure}
use Rattle.structure_rules.specs.declared.Structure.TheVariants.{General, Lower, UnitLower, Upper, UnitUpper, Diagonal, Symmetric}
use Rattle.matrix_algebra.proofs.InPlace.{IsPlacing}
use Rattle.matrix_algebra.proofs.Triangles.{IsTriangle, order_of}

-- the numbers below n in some order
pub record IsOrder (n : ℕ) (order : ℕ → ℕ) : Type 0 where
  pub below : (k : ℕ) → k < n → order k < n
  pub one : (i k : ℕ) → i < n → k < n → order i ≡ order k → i ≡ k

-- row by row, and each row column by column
abbrev pub rowwise : ℕ → (ℕ → ℕ) → (ℕ → ℕ) → Table
rowwise cols row_order col_order i j = row_order i * cols + col_order j

-- ascending, and descending
pub IsOrder-ascending : (n : ℕ) → IsOrder n (λ k. k)
IsOrder-ascending n = record { below = λ k h. h; one = λ i k p q e. e }

pub IsOrder-descending : (n : ℕ) → IsOrder n (λ k. n - suc k)
IsOrder-descending n = record { below = λ k h. omega arith; one = λ i k p q e. omega arith }

-- the order of a triangular factor
pub IsOrder-order_of : (s : Structure) (n : ℕ) → IsOrder n (order_of s n)
IsOrder-order_of General n = IsOrder-ascending n
IsOrder-order_of Lower n = IsOrder-ascending n
IsOrder-order_of UnitLower n = IsOrder-ascending n
IsOrder-order_of Upper n = IsOrder-descending n
IsOrder-order_of UnitUpper n = IsOrder-descending n
IsOrder-order_of Diagonal n = IsOrder-ascending n
IsOrder-order_of Symmetric n = IsOrder-ascending n

module _ (rows cols : ℕ) (row_order col_order : ℕ → ℕ) (rows_ordered : IsOrder rows row_order) (cols_ordered : IsOrder cols col_order) where
  -- no two entries have one place
  pub IsPlacing-rowwise : (s : Structure) → IsPlacing rows cols s (rowwise cols row_order col_order)
  IsPlacing-rowwise s = record {
    one = λ a b i j other entry e.
        let same = same_from_place (row_order a) (col_order b) (row_order i) (col_order j) cols
        (cols_ordered.below b other.col) (cols_ordered.below j entry.col) e in
        (rows_ordered.one a i other.row entry.row same.0, cols_ordered.one b j other.col entry.col same.1);
  }

  -- an entry of an earlier row comes before
  earlier_row : (i k j : ℕ) → j < cols → row_order k < row_order i → rowwise cols row_order col_order k j < rowwise cols row_order col_order i j
  earlier_row i k j col h =
      let whole : suc (row_order k) * cols ≤ row_order i * cols = mul-le-mul_right {m = suc (row_order k)} {n = row_order i} cols h in
      omega arith

  -- a triangular factor on the left reads rows that come before
  pub reads_rows : (t : Table) → IsTriangle rows row_order t → (i k j : ℕ) → i < rows → k < rows → j < cols → k ≢ i
      → (t i k ≡ 0) ⊎ (rowwise cols row_order col_order k j < rowwise cols row_order col_order i j)
  reads_rows t triangle i k j row row' col apart = elim (triangle.earlier i k row row' apart) [
    | inl none ↦ inl none
    | inr before ↦ inr (earlier_row i k j col before)
  ]

  -- a triangular factor on the right reads columns that come before
  pub reads_cols : (u : Table) → IsTriangle cols col_order (transpose u) → (i k j : ℕ) → i < rows → k < cols → j < cols → k ≢ j
      → (u k j ≡ 0) ⊎ (rowwise cols row_order col_order i k < rowwise cols row_order col_order i j)
  reads_cols u triangle i k j row col' col apart = elim (triangle.earlier j k col col' apart) [
    | inl none ↦ inl none
    | inr before ↦ inr (omega arith)
  ]
