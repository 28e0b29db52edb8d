-- Whether an operation has a first bad pivot can be told: there is a place that has it, or there is none.
use Rattle.std.proofs.Common.{◌≡◌, ℕ, ◌<◌, ◌≤◌, ◌⊎◌, List, inl, inr, refl, arith}
use Rattle.residue_sums.specs.Residues.{IsModulus}
use Rattle.residue_sums.specs.Tables.{Table}
use Rattle.residue_sums.specs.Grids.{Grid, AreResidues}
use Rattle.operation_spec.specs.declared.operation.Operation.{Operation}
use Rattle.operation_spec.specs.declared.operation.Form.{Form}
use Rattle.operation_spec.specs.declared.operation.Form.TheVariants.{Assign, Left, Right, Sylvester, Lu, Ldl}
use Rattle.equation.specs.declared.job.Place.{Place}
use Rattle.equation.specs.Equations.{right_side}
use Rattle.equation.specs.Pivots.{HasResidues, IsFirstBadPivot, IsFirstByRows, IsFirstOnDiagonal, factor_pivots}
use Rattle.equation.proofs.Assignments.{no_bad_pivot}
use Rattle.equation.proofs.FirstNumbers.{first_or_none}
use Rattle.equation.proofs.NextFactors.{bad_for_lu_or_not, bad_for_ldl_or_not}
use Rattle.equation.proofs.SolvedGrids.{HasResidues-right_side}
use Rattle.equation.proofs.UnitPivots.{bad_on_diagonal_or_units, bad_by_rows_or_units}

-- a place has the property, or none has it
abbrev pub PlaceOrNone : (Place → Type 0) → Type 0
PlaceOrNone IsIt = ((place : Place) × IsIt place) ⊎ ((place : Place) → ¬ (IsIt place))

-- pivots on a diagonal, and in rows and columns
on_diagonal : (m n : ℕ) → 2 ≤ m → (pivot : ℕ → ℕ) → PlaceOrNone (IsFirstOnDiagonal m n pivot)
on_diagonal m n two pivot = elim (bad_on_diagonal_or_units m two n pivot) [
  | inl found ↦ inl found
  | inr units ↦ inr (λ place is. is.bad (units place.row is.within))
]

by_rows : (m rows cols : ℕ) → 2 ≤ m → (pivot : Table) → PlaceOrNone (IsFirstByRows m rows cols pivot)
by_rows m rows cols two pivot = elim (bad_by_rows_or_units m two rows cols pivot) [
  | inl found ↦ inl found
  | inr units ↦ inr (λ place is. is.bad (units place.row place.col is.row is.col))
]

-- pivots of factors, along the diagonal, where it can be told of each whether it is the first bad one
along_diagonal : (n : ℕ) (IsBad : ℕ → Type 0) → ((k : ℕ) → ((j : ℕ) → j < k → ¬ (IsBad j)) → IsBad k ⊎ ¬ (IsBad k))
    → PlaceOrNone (λ place. (place.col ≡ place.row) × (place.row < n) × IsBad place.row)
along_diagonal n IsBad tell = elim (first_or_none IsBad tell n) [
  | inl found ↦ inl (record { row = found.number; col = found.number }, (refl, found.within, found.such))
  | inr none ↦ inr (λ place is. none place.row is.1 is.2)
]

-- of an operation of any form, whether it is valid or not
pub bad_pivot_or_none : (m : ℕ) (op : Operation) (knowns : List Grid) (work : Grid) → IsModulus m → AreResidues m work
    → PlaceOrNone (IsFirstBadPivot m op knowns work)
bad_pivot_or_none m op knowns work modulus residues = go op.form refl
  where
    two : 2 ≤ m
    two = modulus.at_least_two

    right : HasResidues m (right_side m op knowns work)
    right = HasResidues-right_side m op knowns work (omega (arith, modulus.at_least_two)) residues

    go : (form : Form) → op.form ≡ form → PlaceOrNone (IsFirstBadPivot m op knowns work)
    go Assign e = inr (λ place. no_bad_pivot m op knowns work place e)
    go (Left t) e = rw e (on_diagonal m work.rows two (factor_pivots op knowns t))
    go (Right t) e = rw e (on_diagonal m work.cols two (factor_pivots op knowns t))
    go (Sylvester t u negative) e = rw e (by_rows m work.rows work.cols two _)
    go Lu e = rw e (along_diagonal work.rows _ (bad_for_lu_or_not m two (right_side m op knowns work) right))
    go Ldl e = rw e (along_diagonal work.rows _ (bad_for_ldl_or_not m two (right_side m op knowns work) right))
