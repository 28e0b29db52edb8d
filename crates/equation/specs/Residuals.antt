-- Where a matrix that is said to be the work matrix after a statement isn't: the first entry at which the equation, or the rule for
-- the other entries, fails.
use Rattle.std.specs.Prelude.{◌≡◌, ℕ, ◌<◌, List}
use Rattle.residue_sums.specs.Grids.{Grid, entry}
use Rattle.structure_rules.specs.Structures.{IsInside, IsZero}
use Rattle.operation_spec.specs.declared.operation.Operation.{Operation}
use Rattle.equation.specs.declared.job.Place.{Place}
use Rattle.equation.specs.Equations.{left_side, right_side}
use Rattle.equation.specs.Pivots.{IsBefore}

-- at (i, j), an entry of the work structure satisfies the equation, and another one is that of the work matrix
pub record HoldsAt (m : ℕ) (op : Operation) (knowns : List Grid) (work after : Grid) (i j : ℕ) : Type 0 where
  pub equation : IsInside op.work.structure i j → left_side m op knowns after i j ≡ right_side m op knowns work i j
  pub others : IsZero op.work.structure i j → entry after i j ≡ entry work i j

-- the place has the first entry, row by row, at which this fails
pub record IsFirstResidual (m : ℕ) (op : Operation) (knowns : List Grid) (work after : Grid) (place : Place) : Type 0 where
  pub row : place.row < work.rows
  pub col : place.col < work.cols
  pub fails : ¬ (HoldsAt m op knowns work after place.row place.col)
  pub first : (i j : ℕ) → i < work.rows → j < work.cols → IsBefore i j place → HoldsAt m op knowns work after i j

-- the place has the first entry of a row at which it fails
pub record IsFirstInRow (m : ℕ) (op : Operation) (knowns : List Grid) (work after : Grid) (row : ℕ) (place : Place) : Type 0 where
  pub here : place.row ≡ row
  pub col : place.col < work.cols
  pub fails : ¬ (HoldsAt m op knowns work after row place.col)
  pub first : (j : ℕ) → j < place.col → HoldsAt m op knowns work after row j
