-- Structures: what a view of a stored matrix has at each place, and which of its blocks hold zeros alone.
use Rattle.std.specs.Prelude.{◌≡◌, ◌≢◌, ℕ, ◌<◌, Bool, true, false, not, nat_lt, nat_le, ◌==◌, if◌then◌else◌}
use Rattle.residue_sums.specs.Tables.{Table}
use Rattle.structure_rules.specs.declared.Structure.{Structure}
use Rattle.structure_rules.specs.declared.Structure.TheVariants.{General, Lower, UnitLower, Upper, UnitUpper, Diagonal, Symmetric}
use Rattle.structure_rules.specs.declared.Stored.{Stored}

-- entry (i, j) of the view of the stored matrix a
abbrev pub view : Structure → Table → Table
view General a i j = a i j
view Lower a i j = if nat_le j i then a i j else 0
view UnitLower a i j = if i == j then 1 else (if nat_lt j i then a i j else 0)
view Upper a i j = if nat_le i j then a i j else 0
view UnitUpper a i j = if i == j then 1 else (if nat_lt i j then a i j else 0)
view Diagonal a i j = if i == j then a i j else 0
view Symmetric a i j = if nat_le j i then a i j else a j i

-- block (i, j) of a view holds zeros alone, whatever is stored
abbrev pub IsZero : Structure → ℕ → ℕ → Type 0
IsZero General i j = ⊥
IsZero Lower i j = i < j
IsZero UnitLower i j = i < j
IsZero Upper i j = j < i
IsZero UnitUpper i j = j < i
IsZero Diagonal i j = i ≢ j
IsZero Symmetric i j = ⊥

-- the same as a test
abbrev pub is_zero : Structure → ℕ → ℕ → Bool
is_zero General i j = false
is_zero Lower i j = nat_lt i j
is_zero UnitLower i j = nat_lt i j
is_zero Upper i j = nat_lt j i
is_zero UnitUpper i j = nat_lt j i
is_zero Diagonal i j = not (i == j)
is_zero Symmetric i j = false

-- block (i, j) of a view is no zero block
abbrev pub IsInside : Structure → ℕ → ℕ → Type 0
IsInside s i j = ¬ (IsZero s i j)

-- entry (i, j) of a view is 1, whatever is stored
abbrev pub IsOne : Structure → ℕ → ℕ → Type 0
IsOne UnitLower i j = i ≡ j
IsOne UnitUpper i j = i ≡ j
IsOne _ i j = ⊥

-- the stored place that the view reads at (i, j)
abbrev pub stored_of : Structure → ℕ → ℕ → Stored
stored_of Symmetric i j = if nat_lt i j then record { row = j; col = i; transposed = true } else record { row = i; col = j; transposed = false }
stored_of _ i j = record { row = i; col = j; transposed = false }

-- (i, j) is an entry of the structure in a matrix of so many rows and columns
pub record IsEntry (rows cols : ℕ) (s : Structure) (i j : ℕ) : Type 0 where
  pub row : i < rows
  pub col : j < cols
  pub inside : IsInside s i j

-- what the triangular factor of a solve may be
abbrev pub IsTriangular : Structure → Type 0
IsTriangular General = ⊥
IsTriangular Lower = Unit {0}
IsTriangular UnitLower = Unit {0}
IsTriangular Upper = Unit {0}
IsTriangular UnitUpper = Unit {0}
IsTriangular Diagonal = Unit {0}
IsTriangular Symmetric = ⊥

-- what the matrix that a solve writes may be
abbrev pub IsWorkStructure : Structure → Type 0
IsWorkStructure General = Unit {0}
IsWorkStructure Lower = Unit {0}
IsWorkStructure UnitLower = ⊥
IsWorkStructure Upper = Unit {0}
IsWorkStructure UnitUpper = ⊥
IsWorkStructure Diagonal = ⊥
IsWorkStructure Symmetric = ⊥

-- the structure of the transpose
abbrev pub transpose_of : Structure → Structure
transpose_of General = General
transpose_of Lower = Upper
transpose_of UnitLower = UnitUpper
transpose_of Upper = Lower
transpose_of UnitUpper = UnitLower
transpose_of Diagonal = Diagonal
transpose_of Symmetric = Symmetric
