-- The first bad pivot of a statement: the first place where a pivot has no inverse modulo m.
use Rattle.std.specs.Prelude.{◌≡◌, ℕ, ◌+◌, ◌<◌, ◌≤◌, ◌⊎◌, List, slice_index_or, if◌then◌else◌}
use Rattle.residue_sums.specs.Residues.{IsUnit}
use Rattle.residue_sums.specs.Tables.{Table, plus, times, transpose}
use Rattle.residue_sums.specs.Grids.{Grid}
use Rattle.structure_rules.specs.declared.Structure.TheVariants as structures
use Rattle.structure_rules.specs.Structures.{view}
use Rattle.operation_spec.specs.declared.operation.Operation.{Operation}
use Rattle.operation_spec.specs.declared.operation.Factor.{Factor}
use Rattle.operation_spec.specs.declared.operation.Form.{Form}
use Rattle.operation_spec.specs.declared.operation.Form.TheVariants.{Assign, Left, Right, Sylvester, Lu, Ldl}
use Rattle.equation.specs.declared.job.Place.{Place}
use Rattle.equation.specs.Equations.{factor_table, minus, right_side}

-- of n pivots along the diagonal, the place has the first that isn't a unit
pub record IsFirstOnDiagonal (m n : ℕ) (pivot : ℕ → ℕ) (place : Place) : Type 0 where
  pub diagonal : place.col ≡ place.row
  pub within : place.row < n
  pub bad : ¬ (IsUnit m (pivot place.row))
  pub first : (i : ℕ) → i < place.row → IsUnit m (pivot i)

-- row by row, (i, j) comes before the place
abbrev pub IsBefore : ℕ → ℕ → Place → Type 0
IsBefore i j place = (i < place.row) ⊎ ((i ≡ place.row) × (j < place.col))

-- of the pivots in so many rows and columns, the place has the first, row by row, that isn't a unit
pub record IsFirstByRows (m rows cols : ℕ) (pivot : Table) (place : Place) : Type 0 where
  pub row : place.row < rows
  pub col : place.col < cols
  pub bad : ¬ (IsUnit m (pivot place.row place.col))
  pub first : (i j : ℕ) → i < rows → j < cols → IsBefore i j place → IsUnit m (pivot i j)

-- tables of residues
abbrev pub HasResidues : ℕ → Table → Type 0
HasResidues m a = (i j : ℕ) → a i j < m

-- the leading block of size k + 1 of r has factors L and U whose pivots are units up to the one at (k, k), which isn't
pub record IsBadForLu (m : ℕ) (r : Table) (k : ℕ) : Type 0 where
  pub l : Table
  pub u : Table
  pub l_residues : HasResidues m l
  pub u_residues : HasResidues m u
  pub product : (i j : ℕ) → i ≤ k → j ≤ k → times m (k + 1) (view structures.UnitLower l) (view structures.Upper u) i j ≡ r i j
  pub units : (i : ℕ) → i < k → IsUnit m (u i i)
  pub bad : ¬ (IsUnit m (u k k))

-- on its lower entries the leading block of size k + 1 of r is L * D * L', where the pivots are units up to the one at
-- (k, k), which isn't
pub record IsBadForLdl (m : ℕ) (r : Table) (k : ℕ) : Type 0 where
  pub l : Table
  pub d : Table
  pub l_residues : HasResidues m l
  pub d_residues : HasResidues m d
  pub product : (i j : ℕ) → i ≤ k → j ≤ i
      → times m (k + 1) (times m (k + 1) (view structures.UnitLower l) (view structures.Diagonal d)) (transpose (view structures.UnitLower l)) i j ≡ r i j
  pub units : (i : ℕ) → i < k → IsUnit m (d i i)
  pub bad : ¬ (IsUnit m (d k k))

-- the pivots of a triangular factor: the diagonal of its view
abbrev pub factor_pivots : Operation → List Grid → Factor → ℕ → ℕ
factor_pivots op knowns f i = factor_table op knowns f i i

-- the factor's operand has ones on its diagonal, whatever its matrix holds
abbrev pub IsUnitFactor : Operation → Factor → Type 0
IsUnitFactor op f = ((slice_index_or op.knowns f.known op.work).structure ≡ structures.UnitLower) ⊎ ((slice_index_or op.knowns f.known op.work).structure ≡ structures.UnitUpper)

-- the place has the first bad pivot of an operation for these known matrices and this work matrix
abbrev pub IsFirstBadPivot : ℕ → Operation → List Grid → Grid → Place → Type 0
IsFirstBadPivot m op knowns work place = bad op.form
  where
    bad : Form → Type 0
    bad Assign = ⊥
    bad (Left t) = IsFirstOnDiagonal m work.rows (factor_pivots op knowns t) place
    bad (Right t) = IsFirstOnDiagonal m work.cols (factor_pivots op knowns t) place
    bad (Sylvester t u negative) = IsFirstByRows m work.rows work.cols
        (if negative then minus m (λ i j. factor_pivots op knowns t i) (λ i j. factor_pivots op knowns u j)
        else plus m (λ i j. factor_pivots op knowns t i) (λ i j. factor_pivots op knowns u j)) place
    bad Lu = (place.col ≡ place.row) × (place.row < work.rows) × IsBadForLu m (right_side m op knowns work) place.row
    bad Ldl = (place.col ≡ place.row) × (place.row < work.rows) × IsBadForLdl m (right_side m op knowns work) place.row

-- the form's pivots are given by the known matrices alone
abbrev pub HasInputPivots : Form → Type 0
HasInputPivots (Left t) = Unit {0}
HasInputPivots (Right t) = Unit {0}
HasInputPivots (Sylvester t u negative) = Unit {0}
HasInputPivots _ = ⊥

-- the place has the first bad pivot of an operation with such a form
abbrev pub IsFirstBadInputPivot : ℕ → Operation → List Grid → Grid → Place → Type 0
IsFirstBadInputPivot m op knowns work place = HasInputPivots op.form × IsFirstBadPivot m op knowns work place
