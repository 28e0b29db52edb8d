-- The factors L * D * L' of a matrix, as a system that is solved entry by entry on and below the diagonal, row by row. Cited by the
-- kernel that factors in place and by the laws of the factors. `ldl_left w` is the product of the factors that the table w holds.
use Rattle.std.proofs.Common.{◌≡◌, ℕ, ◌+◌, ◌*◌, ◌<◌, ◌≤◌, ◌⊎◌, inl, inr, refl, sym, ◌∙◌, ap, ap₂, arith}
use Rattle.std.proofs.lemmas.Bool.{cases_lt}
use Rattle.residue_sums.specs.Residues.{Cong}
use Rattle.residue_sums.specs.Sums.{sum_below}
use Rattle.residue_sums.specs.Tables.{Table, product, transpose}
use Rattle.residue_sums.proofs.Congruence.{Cong-refl, Cong-add, Cong-scale, Cong-mul, Cong-by}
use Rattle.residue_sums.proofs.Sums.{sum_below-same, sum_below-Cong, sum_below-last, sum_below-only}
use Rattle.structure_rules.specs.declared.Structure.TheVariants.{Lower, UnitLower, Diagonal}
use Rattle.structure_rules.specs.Structures.{view, IsEntry}
use Rattle.matrix_algebra.specs.Triangles.{IsUnitLower, IsDiagonal}
use Rattle.matrix_algebra.proofs.Substitution.{AgreeBefore, IsSystem}
use Rattle.matrix_algebra.proofs.Places.{rowwise}
use Rattle.matrix_algebra.proofs.Packed.{pivot_of, pivot_of-lower, pivot_of-upper, packed, packed-lower, packed-upper, view-unit_lower_below, view-diagonal_here, IsUnitLower-view, IsDiagonal-view, row_first}

-- an entry of L * D * L' on or below the diagonal
abbrev pub ldl_left : Table → Table
ldl_left w i j = sum_below (λ k. w i k * (w k k * w j k)) j + pivot_of w i j * w i j

-- the product of a table and a diagonal one
pub product-diagonal : (n : ℕ) (l d : Table) (i k : ℕ) → IsDiagonal n d → k < n → product n l d i k ≡ l i k * d k k
product-diagonal n l d i k diagonal col =
    sum_below-only (λ p. l i p * d p k) n k col (λ p within other. rw (diagonal.apart p k within col other) (omega arith))

-- the product of L, D and L' is `ldl_left` of a table that holds L and D
product-factors : (n : ℕ) (l d w : Table) (i j : ℕ) → IsUnitLower n l → IsDiagonal n d → j ≤ i → i < n
    → ((a b : ℕ) → b < a → l a b ≡ w a b) → ((a : ℕ) → d a a ≡ w a a)
    → product n (product n l d) (transpose l) i j ≡ ldl_left w i j
product-factors n l d w i j lower diagonal below row l_is d_is =
    sum_below-last (λ k. product n l d i k * l j k) n j (omega arith) (λ k past within. rw (lower.above j k past within) (omega arith))
    ∙ ap₂ (λ (x y : ℕ). x + y)
    (sum_below-same (λ k. product n l d i k * l j k) (λ k. w i k * (w k k * w j k)) j (λ k h. term k h))
    (last (cases_lt j i))
  where
    term : (k : ℕ) → k < j → product n l d i k * l j k ≡ w i k * (w k k * w j k)
    term k h =
        let scaled : product n l d i k ≡ l i k * d k k = product-diagonal n l d i k diagonal (omega arith) in
        rw (scaled, l_is i k (omega arith), l_is j k h, d_is k) (omega arith)

    last : (j < i) ⊎ (i ≤ j) → product n l d i j * l j j ≡ pivot_of w i j * w i j
    last (inl under) =
        let scaled : product n l d i j ≡ l i j * d j j = product-diagonal n l d i j diagonal (omega arith) in
        rw (scaled, lower.one j (omega arith), l_is i j under, d_is j) (omega (arith, ap (λ (p : ℕ). p * w i j) (pivot_of-lower w i j under)))
    last (inr level) =
        let same : i ≡ j = omega arith in
        rw (sym same) (rw (product-diagonal n l d i i diagonal row, lower.one i row, d_is i) (omega (arith, ap (λ (p : ℕ). p * w i i) (pivot_of-upper w i i (omega arith)))))

-- the product of the views of one table
pub product-views : (n : ℕ) (w : Table) (i j : ℕ) → j ≤ i → i < n
    → product n (product n (view UnitLower w) (view Diagonal w)) (transpose (view UnitLower w)) i j ≡ ldl_left w i j
product-views n w i j below row =
    product-factors n (view UnitLower w) (view Diagonal w) w i j (IsUnitLower-view n w) (IsDiagonal-view n w) below row
    (view-unit_lower_below w) (λ a. view-diagonal_here w a a refl)

pub product-packed : (n : ℕ) (l d : Table) (i j : ℕ) → IsUnitLower n l → IsDiagonal n d → j ≤ i → i < n
    → product n (product n l d) (transpose l) i j ≡ ldl_left (packed l d) i j
product-packed n l d i j lower diagonal below row =
    product-factors n l d (packed l d) i j lower diagonal below row (λ a b h. sym (packed-lower l d a b h)) (λ a. sym (packed-upper l d a a (omega arith)))

-- the product of the factors is a system
pub IsSystem-ldl : (m n : ℕ) → IsSystem m (IsEntry n n Lower) (rowwise n (λ k. k) (λ k. k)) ldl_left pivot_of
IsSystem-ldl m n = record {
  differs = λ x y i j entry before.
      Cong-by (Cong-add (sums x y i j entry before) (Cong-scale (y i j) (pivots x y i j entry before (cases_lt j i)))) (omega arith);
}
  where
    -- an entry (a, b) that comes before (i, j)
    earlier : (a b i j : ℕ) → a ≤ i → i < n → b < j → b ≤ a → a * n + b < i * n + j
    earlier a b i j le row col below = elim (cases_lt a i) [
      | inl less ↦ row_first n a b i j (omega arith) less
      | inr same ↦ (let e : a ≡ i = omega arith in rw e (omega arith))
    ]

    sums : (x y : Table) (i j : ℕ) → IsEntry n n Lower i j → AgreeBefore m (IsEntry n n Lower) (rowwise n (λ k. k) (λ k. k)) x y i j
        → Cong m (sum_below (λ k. x i k * (x k k * x j k)) j) (sum_below (λ k. y i k * (y k k * y j k)) j)
    sums x y i j entry before =
        let level : j ≤ i = omega (arith, entry.inside) in
        let row : i < n = entry.row in
        sum_below-Cong m (λ k. x i k * (x k k * x j k)) (λ k. y i k * (y k k * y j k)) j (λ k h. Cong-mul
        (before i k (record { row = row; col = omega arith; inside = λ over. omega arith }) (earlier i k i j (omega arith) row h (omega arith)))
        (Cong-mul
        (before k k (record { row = omega arith; col = omega arith; inside = λ over. omega arith }) (earlier k k i j (omega arith) row h (omega arith)))
        (before j k (record { row = omega arith; col = omega arith; inside = λ over. omega arith }) (earlier j k i j level row h (omega arith)))))

    pivots : (x y : Table) (i j : ℕ) → IsEntry n n Lower i j → AgreeBefore m (IsEntry n n Lower) (rowwise n (λ k. k) (λ k. k)) x y i j → (j < i) ⊎ (i ≤ j)
        → Cong m (pivot_of x i j) (pivot_of y i j)
    pivots x y i j entry before (inl below) = rw (pivot_of-lower x i j below, pivot_of-lower y i j below)
        (before j j (record { row = entry.col; col = entry.col; inside = λ over. omega arith }) (row_first n j j i j entry.col below))
    pivots x y i j entry before (inr above) = rw (pivot_of-upper x i j above, pivot_of-upper y i j above) (Cong-refl m 1)
