-- Triangular views, as tables whose rows read earlier rows alone in an order of the rows. Cited by the equations with triangular
-- factors: rows ascend where the factor is lower, and descend where it is upper.
use Rattle.std.proofs.Common.{◌≡◌, ◌≢◌, Bool, true, false, not, ℕ, suc, ◌-◌, ◌<◌, ◌≤◌, ◌⊎◌, inl, inr, refl, sym, arith}
use Rattle.residue_sums.specs.Residues.{IsUnit}
use Rattle.residue_sums.specs.Tables.{Table, transpose, oriented}
use Rattle.residue_sums.proofs.Congruence.{Cong-refl, IsUnit-from_inverse}
use Rattle.structure_rules.specs.declared.Structure.{Structure}
use Rattle.structure_rules.specs.declared.Structure.TheVariants.{General, Lower, UnitLower, Upper, UnitUpper, Diagonal, Symmetric}
use Rattle.structure_rules.specs.Structures.{view, IsInside, IsOne, IsTriangular, transpose_of}
use Rattle.structure_rules.proofs.Views.{IsZero-or_inside, view-zero, view-one}

-- off its diagonal a table of n rows and columns has 0, or an entry in a column that comes before its row
pub record IsTriangle (n : ℕ) (order : ℕ → ℕ) (t : Table) : Type 0 where
  pub earlier : (i k : ℕ) → i < n → k < n → k ≢ i → (t i k ≡ 0) ⊎ (order k < order i)

-- the order in which the rows of a triangular view are solved
abbrev pub order_of : Structure → ℕ → ℕ → ℕ
order_of Upper n k = n - suc k
order_of UnitUpper n k = n - suc k
order_of _ n k = k

-- the structure of the transpose where primed
abbrev pub structure_of : Bool → Structure → Structure
structure_of true s = transpose_of s
structure_of false s = s

-- an entry off the diagonal that is no zero place lies in a column that comes before its row
column_before : (s : Structure) (n i k : ℕ) → IsTriangular s → i < n → k < n → k ≢ i → IsInside s i k → order_of s n k < order_of s n i
column_before General n i k triangular row col apart inside = absurd triangular
column_before Lower n i k triangular row col apart inside = omega (arith, inside)
column_before UnitLower n i k triangular row col apart inside = omega (arith, inside)
column_before Upper n i k triangular row col apart inside = omega (arith, inside)
column_before UnitUpper n i k triangular row col apart inside = omega (arith, inside)
column_before Diagonal n i k triangular row col apart inside = absurd (inside (λ e. apart (sym e)))
column_before Symmetric n i k triangular row col apart inside = absurd triangular

-- and so does one of the transpose
row_before : (s : Structure) (n i k : ℕ) → IsTriangular s → i < n → k < n → k ≢ i → IsInside s k i → order_of (transpose_of s) n k < order_of (transpose_of s) n i
row_before General n i k triangular row col apart inside = absurd triangular
row_before Lower n i k triangular row col apart inside = omega (arith, inside)
row_before UnitLower n i k triangular row col apart inside = omega (arith, inside)
row_before Upper n i k triangular row col apart inside = omega (arith, inside)
row_before UnitUpper n i k triangular row col apart inside = omega (arith, inside)
row_before Diagonal n i k triangular row col apart inside = absurd (inside apart)
row_before Symmetric n i k triangular row col apart inside = absurd triangular

-- a triangular view, transposed where primed
pub IsTriangle-view : (primed : Bool) (s : Structure) (n : ℕ) (a : Table) → IsTriangular s → IsTriangle n (order_of (structure_of primed s) n) (oriented primed (view s a))
IsTriangle-view false s n a triangular = record {
  earlier = λ i k row col apart. elim (IsZero-or_inside s i k) [
    | inl zero_place ↦ inl (view-zero s a i k zero_place)
    | inr inside ↦ inr (column_before s n i k triangular row col apart inside)
  ];
}
IsTriangle-view true s n a triangular = record {
  earlier = λ i k row col apart. elim (IsZero-or_inside s k i) [
    | inl zero_place ↦ inl (view-zero s a k i zero_place)
    | inr inside ↦ inr (row_before s n i k triangular row col apart inside)
  ];
}

-- its transpose
pub IsTriangle-view_transposed : (primed : Bool) (s : Structure) (n : ℕ) (a : Table) → IsTriangular s
    → IsTriangle n (order_of (structure_of (not primed) s) n) (transpose (oriented primed (view s a)))
IsTriangle-view_transposed false s n a triangular = IsTriangle-view true s n a triangular
IsTriangle-view_transposed true s n a triangular = IsTriangle-view false s n a triangular

-- a transpose has the same diagonal
pub oriented-diagonal : (primed : Bool) (a : Table) (i : ℕ) → oriented primed a i i ≡ a i i
oriented-diagonal true a i = refl
oriented-diagonal false a i = refl

-- the diagonal of a unit structure has units
pub IsUnit-view_one : (m : ℕ) (s : Structure) (a : Table) (i j : ℕ) → 2 ≤ m → IsOne s i j → IsUnit m (view s a i j)
IsUnit-view_one m s a i j two one = rw (view-one s a i j one) (IsUnit-from_inverse m 1 1 two (Cong-refl m 1))
