-- The factors L * U of a matrix, as a system that is solved entry by entry, row by row. Cited by the kernel that factors in place and
-- by the laws of the factors. `lu_left w` is the product of the two factors that the table w holds.
use Rattle.std.proofs.Common.{◌≡◌, ℕ, min, ◌+◌, ◌*◌, ◌<◌, ◌≤◌, ◌⊎◌, inl, inr, sym, ◌∙◌, ap₂, arith}
use Rattle.std.proofs.lemmas.Bool.{cases_lt}
use Rattle.residue_sums.specs.Residues.{Cong}
use Rattle.residue_sums.specs.Sums.{sum_below}
use Rattle.residue_sums.specs.Tables.{Table, product}
use Rattle.residue_sums.proofs.Congruence.{Cong-refl, Cong-add, Cong-scale, Cong-mul, Cong-by}
use Rattle.residue_sums.proofs.Sums.{sum_below-same, sum_below-Cong, sum_below-last}
use Rattle.structure_rules.specs.declared.Structure.TheVariants.{General, UnitLower, Upper}
use Rattle.structure_rules.specs.Structures.{view, IsEntry}
use Rattle.matrix_algebra.specs.Triangles.{IsUnitLower, IsUpper}
use Rattle.matrix_algebra.proofs.Substitution.{AgreeBefore, IsSystem}
use Rattle.matrix_algebra.proofs.Places.{rowwise}
use Rattle.matrix_algebra.proofs.Packed.{pivot_of, pivot_of-lower, pivot_of-upper, packed, packed-lower, packed-upper, view-unit_lower_below, view-upper_above, IsUnitLower-view, IsUpper-view, row_first}

-- an entry of L * U
abbrev pub lu_left : Table → Table
lu_left w i j = sum_below (λ k. w i k * w k j) (min i j) + pivot_of w i j * w i j

-- the product of a unit lower and an upper table is `lu_left` of a table that holds both
product-factors : (n : ℕ) (l u w : Table) (i j : ℕ) → IsUnitLower n l → IsUpper n u → i < n → j < n
    → ((a b : ℕ) → b < a → l a b ≡ w a b) → ((a b : ℕ) → a ≤ b → u a b ≡ w a b)
    → product n l u i j ≡ lu_left w i j
product-factors n l u w i j lower upper row col l_is u_is =
    sum_below-last (λ k. l i k * u k j) n (min i j) (omega arith) (λ k past within. zeros k past within (cases_lt i k))
    ∙ ap₂ (λ (x y : ℕ). x + y)
    (sum_below-same (λ k. l i k * u k j) (λ k. w i k * w k j) (min i j) (λ k h. ap₂ (λ (x y : ℕ). x * y) (l_is i k (omega arith)) (u_is k j (omega arith))))
    (last (cases_lt j i))
  where
    zeros : (k : ℕ) → min i j < k → k < n → (i < k) ⊎ (k ≤ i) → l i k * u k j ≡ 0
    zeros k past within (inl right) = rw (lower.above i k right within) (omega arith)
    zeros k past within (inr left) = rw (upper.below k j (omega arith) within) (omega arith)

    last : (j < i) ⊎ (i ≤ j) → l i (min i j) * u (min i j) j ≡ pivot_of w i j * w i j
    last (inl below) =
        let e : min i j ≡ j = omega arith in
        rw (e, l_is i j below, u_is j j (omega arith), pivot_of-lower w i j below) (omega arith)
    last (inr above) =
        let e : min i j ≡ i = omega arith in
        rw (e, lower.one i row, u_is i j above, pivot_of-upper w i j above) (omega arith)

-- the product of the two views of one table
pub product-views : (n : ℕ) (w : Table) (i j : ℕ) → i < n → j < n → product n (view UnitLower w) (view Upper w) i j ≡ lu_left w i j
product-views n w i j row col =
    product-factors n (view UnitLower w) (view Upper w) w i j (IsUnitLower-view n w) (IsUpper-view n w) row col (view-unit_lower_below w) (view-upper_above w)

pub product-packed : (n : ℕ) (l u : Table) (i j : ℕ) → IsUnitLower n l → IsUpper n u → i < n → j < n → product n l u i j ≡ lu_left (packed l u) i j
product-packed n l u i j lower upper row col =
    product-factors n l u (packed l u) i j lower upper row col (λ a b h. sym (packed-lower l u a b h)) (λ a b h. sym (packed-upper l u a b h))

-- the product of the factors is a system
pub IsSystem-lu : (m n : ℕ) → IsSystem m (IsEntry n n General) (rowwise n (λ k. k) (λ k. k)) lu_left pivot_of
IsSystem-lu m n = record {
  differs = λ x y i j entry before.
      Cong-by (Cong-add (sums x y i j entry before) (Cong-scale (y i j) (pivots x y i j entry before (cases_lt j i)))) (omega arith);
}
  where
    sums : (x y : Table) (i j : ℕ) → IsEntry n n General i j → AgreeBefore m (IsEntry n n General) (rowwise n (λ k. k) (λ k. k)) x y i j
        → Cong m (sum_below (λ k. x i k * x k j) (min i j)) (sum_below (λ k. y i k * y k j) (min i j))
    sums x y i j entry before = sum_below-Cong m (λ k. x i k * x k j) (λ k. y i k * y k j) (min i j) (λ k h. Cong-mul
        (before i k (record { row = entry.row; col = omega (arith, entry.col); inside = λ none. none }) (omega arith))
        (before k j (record { row = omega (arith, entry.row); col = entry.col; inside = λ none. none }) (row_first n k j i j entry.col (omega arith))))

    pivots : (x y : Table) (i j : ℕ) → IsEntry n n General i j → AgreeBefore m (IsEntry n n General) (rowwise n (λ k. k) (λ k. k)) x y i j → (j < i) ⊎ (i ≤ j)
        → Cong m (pivot_of x i j) (pivot_of y i j)
    pivots x y i j entry before (inl below) = rw (pivot_of-lower x i j below, pivot_of-lower y i j below)
        (before j j (record { row = entry.col; col = entry.col; inside = λ none. none }) (row_first n j j i j entry.col below))
    pivots x y i j entry before (inr above) = rw (pivot_of-upper x i j above, pivot_of-upper y i j above) (Cong-refl m 1)
