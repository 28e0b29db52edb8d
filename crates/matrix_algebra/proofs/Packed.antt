-- One table w that holds the two factors of a matrix: L below the diagonal, and U, or the diagonal D, on it and above. Cited by the
-- systems of the factors and by the kernels, which read a factor as a view of the table.
use Rattle.std.proofs.Common.{◌≡◌, ◌≢◌, ℕ, suc, ◌+◌, ◌*◌, ◌<◌, ◌≤◌, ◌⊎◌, inl, inr, cond, ltb, refl, arith}
use Rattle.std.proofs.Math.Nat.{mul-le-mul_right}
use Rattle.std.proofs.lemmas.Bool.{cases_lt}
use Rattle.std.proofs.lemmas.Bool.Decides.{nat_tests}
use Rattle.residue_sums.specs.Residues.{Cong, IsUnit}
use Rattle.residue_sums.specs.Tables.{Table}
use Rattle.residue_sums.proofs.Congruence.{Cong-refl, IsUnit-from_inverse, row_from_unknown}
use Rattle.structure_rules.specs.declared.Structure.TheVariants.{UnitLower, Upper, Diagonal}
use Rattle.structure_rules.specs.Structures.{view}
use Rattle.matrix_algebra.specs.Triangles.{IsUnitLower, IsUpper, IsDiagonal}

-- what an entry is divided by: a pivot below the diagonal
abbrev pub pivot_of : Table → Table
pivot_of w i j = cond (ltb j i) (w j j) 1

pub pivot_of-lower : (w : Table) (i j : ℕ) → j < i → pivot_of w i j ≡ w j j
pivot_of-lower w i j h = grind (arith, nat_tests)

pub pivot_of-upper : (w : Table) (i j : ℕ) → i ≤ j → pivot_of w i j ≡ 1
pivot_of-upper w i j h = grind (arith, nat_tests)

-- one table for two factors
abbrev pub packed : Table → Table → Table
packed l u i j = cond (ltb j i) (l i j) (u i j)

pub packed-lower : (l u : Table) (i j : ℕ) → j < i → packed l u i j ≡ l i j
packed-lower l u i j h = grind (arith, nat_tests)

pub packed-upper : (l u : Table) (i j : ℕ) → i ≤ j → packed l u i j ≡ u i j
packed-upper l u i j h = grind (arith, nat_tests)

-- the views of one table as its two factors
pub view-unit_lower_below : (w : Table) (i j : ℕ) → j < i → view UnitLower w i j ≡ w i j
view-unit_lower_below w i j h = grind (arith, nat_tests)

pub view-unit_lower_diagonal : (w : Table) (i j : ℕ) → i ≡ j → view UnitLower w i j ≡ 1
view-unit_lower_diagonal w i j h = grind (arith, nat_tests)

pub view-unit_lower_above : (w : Table) (i j : ℕ) → i < j → view UnitLower w i j ≡ 0
view-unit_lower_above w i j h = grind (arith, nat_tests)

pub view-upper_above : (w : Table) (i j : ℕ) → i ≤ j → view Upper w i j ≡ w i j
view-upper_above w i j h = grind (arith, nat_tests)

pub view-upper_below : (w : Table) (i j : ℕ) → j < i → view Upper w i j ≡ 0
view-upper_below w i j h = grind (arith, nat_tests)

pub IsUnitLower-view : (n : ℕ) (w : Table) → IsUnitLower n (view UnitLower w)
IsUnitLower-view n w = record { one = λ i row. view-unit_lower_diagonal w i i refl; above = λ i j h col. view-unit_lower_above w i j h }

pub IsUpper-view : (n : ℕ) (w : Table) → IsUpper n (view Upper w)
IsUpper-view n w = record { below = λ i j h row. view-upper_below w i j h }

pub view-diagonal_here : (w : Table) (i j : ℕ) → i ≡ j → view Diagonal w i j ≡ w i j
view-diagonal_here w i j h = grind (arith, nat_tests)

view-diagonal_apart : (w : Table) (i j : ℕ) → i ≢ j → view Diagonal w i j ≡ 0
view-diagonal_apart w i j h = grind (arith, nat_tests)

pub IsDiagonal-view : (n : ℕ) (w : Table) → IsDiagonal n (view Diagonal w)
IsDiagonal-view n w = record { apart = λ i j row col h. view-diagonal_apart w i j h }

-- the pivot that an entry is divided by is a unit, where those before the last row are
pub pivot_of-unit : (m i j : ℕ) (w : Table) → 2 ≤ m → (j < i → IsUnit m (w j j)) → IsUnit m (pivot_of w i j)
pivot_of-unit m i j w two unit = elim (cases_lt j i) [
  | inl below ↦ rw (pivot_of-lower w i j below) (unit below)
  | inr above ↦ rw (pivot_of-upper w i j above) (IsUnit-from_inverse m 1 1 two (Cong-refl m 1))
]

-- the equation of an entry v that is found as the difference of w and the other terms, times the inverse of the pivot
pub pivot_of-solved : (m i j others v inverse : ℕ) (w : Table) → Cong m (v + others * inverse) (w i j * inverse)
    → (j < i → Cong m (w j j * inverse) 1) → (i ≤ j → inverse ≡ 1) → Cong m (others + pivot_of w i j * v) (w i j)
pivot_of-solved m i j others v inverse w found lower upper = row_from_unknown others v (pivot_of w i j) inverse found (inverts (cases_lt j i))
  where
    inverts : (j < i) ⊎ (i ≤ j) → Cong m (pivot_of w i j * inverse) 1
    inverts (inl below) = rw (pivot_of-lower w i j below) (lower below)
    inverts (inr above) = rw (pivot_of-upper w i j above, upper above) (Cong-refl m 1)

-- an entry of an earlier row comes before, row by row
pub row_first : (n a b i j : ℕ) → b < n → a < i → a * n + b < i * n + j
row_first n a b i j col h = let whole : suc a * n ≤ i * n = mul-le-mul_right {m = suc a} {n = i} n h in omega arith
