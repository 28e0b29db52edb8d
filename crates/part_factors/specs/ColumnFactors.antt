-- Factors that are found in place, some columns after the others, and in these row by row.
use Rattle.std.specs.Prelude.{◌≡◌, ◌≢◌, ℕ, ◌+◌, ◌*◌, ◌%◌, ◌<◌, ◌≤◌, ◌⊎◌, min, MatchResult}
use Rattle.std.specs.declared.result.Result.{Result}
use Rattle.residue_sums.specs.Residues.{Cong, IsUnit}
use Rattle.residue_sums.specs.Sums.{sum_below}
use Rattle.residue_sums.specs.Tables.{Table}
use Rattle.structure_rules.specs.declared.Structure.{Structure}
use Rattle.structure_rules.specs.declared.Structure.TheVariants.{General, Lower}
use Rattle.structure_rules.specs.Structures.{IsInside, IsZero}
use Rattle.matrix_algebra.proofs.Lu.{lu_left}
use Rattle.matrix_algebra.proofs.Ldl.{ldl_left}
use Rattle.part_factors.specs.declared.factoring.FactorKind.{FactorKind}
use Rattle.part_factors.specs.declared.factoring.FactorKind.TheVariants.{Lu, Ldl}
use Rattle.part_factors.specs.declared.bad_pivot.BadPivot.{BadPivot}

-- the entries that are found: all, or those on and below the diagonal
abbrev pub found_in : FactorKind → Structure
found_in Lu = General
found_in Ldl = Lower

-- the first row in which a column from one on has such entries
abbrev pub first_row_of : FactorKind → ℕ → ℕ
first_row_of Lu from = 0
first_row_of Ldl from = from

-- the left side of an entry's equation, over a table that holds the factors
abbrev pub left_of : FactorKind → Table → Table
left_of Lu = lu_left
left_of Ldl = ldl_left

-- and in it the products of other entries
abbrev pub terms_of : FactorKind → Table → Table
terms_of Lu w i j = sum_below (λ k. w i k * w k j) (min i j)
terms_of Ldl w i j = sum_below (λ k. w i k * (w k k * w j k)) j

-- what the panel of a piece has of the first rows: of LU the entries of its columns, of LDL the rows of its diagonal, times D
abbrev pub IsPanel : FactorKind → ℕ → ℕ → ℕ → ℕ → Table → Table → Type 0
IsPanel Lu m from width rows panel w = (j k : ℕ) → j < width → k < rows → k < from + width → panel j k ≡ w k (from + j)
IsPanel Ldl m from width rows panel w = (j k : ℕ) → j < width → from + j < rows → k < from + j → panel j k ≡ w k k * w (from + j) k % m

-- row i is found in the columns from one on and before another: on the entries of the structure the left side over the new
-- entries is the old entry; all other entries are the old ones
pub record IsRowFound (m n : ℕ) (kind : FactorKind) (i from to : ℕ) (old new : Table) : Type 0 where
  pub found : (j : ℕ) → from ≤ j → j < to → IsInside (found_in kind) i j → Cong m (left_of kind new i j) (old i j)
  pub others : (a b : ℕ) → a < n → b < n → (a ≢ i) ⊎ ((b < from) ⊎ ((to ≤ b) ⊎ IsZero (found_in kind) a b)) → new a b ≡ old a b

-- the same of the first rows, where the diagonal's entries are units
pub record AreRowsFound (m n : ℕ) (kind : FactorKind) (rows from to : ℕ) (old new : Table) : Type 0 where
  pub found : (i j : ℕ) → i < rows → from ≤ j → j < to → IsInside (found_in kind) i j → Cong m (left_of kind new i j) (old i j)
  pub units : (j : ℕ) → j < rows → from ≤ j → j < to → IsUnit m (new j j)
  pub others : (a b : ℕ) → a < n → b < n → (rows ≤ a) ⊎ ((b < from) ⊎ ((to ≤ b) ⊎ IsZero (found_in kind) a b)) → new a b ≡ old a b

-- the diagonal's entry in row and column k, behind units, is no unit, where the leading block up to it is found
pub record IsStoppedAt (m n : ℕ) (kind : FactorKind) (from k : ℕ) (old new : Table) : Type 0 where
  pub begun : from ≤ k
  pub within : k < n
  pub found : (i j : ℕ) → i ≤ k → from ≤ j → j ≤ k → IsInside (found_in kind) i j → Cong m (left_of kind new i j) (old i j)
  pub units : (j : ℕ) → from ≤ j → j < k → IsUnit m (new j j)
  pub bad : ¬ (IsUnit m (new k k))
  pub kept : (i j : ℕ) → i < n → j < from → new i j ≡ old i j

-- all rows are found in the columns from one on and before another, or the first pivot there that is no unit is named
abbrev pub IsSearched : ℕ → ℕ → FactorKind → ℕ → ℕ → Table → Table → Result (Unit {0}) BadPivot → Type 0
IsSearched m n kind from to old new result = MatchResult result (λ none. AreRowsFound m n kind n from to old new)
    (λ place. (place.col ≡ place.row) × IsStoppedAt m n kind from place.row old new)
