-- Where a kernel found a pivot that is no unit.
use Rattle.std.specs.Prelude.{◌≡◌, ℕ, ◌<◌, Bool}
use Rattle.residue_sums.specs.Residues.{IsUnit}
use Rattle.residue_sums.specs.Tables.{Table}
use Rattle.equation.specs.declared.job.Place.{Place}
use Rattle.equation.specs.Kernels.{combined}
use Rattle.part_factors.specs.declared.bad_pivot.BadPivot.{BadPivot}

-- the place of a bad pivot, as equations count it
abbrev pub place_of : BadPivot → Place
place_of bad = record { row = bad.row; col = bad.col }

-- the sums of the diagonal entries of t and of u, or their differences where `negative` is true
abbrev pub pair_pivots : ℕ → Bool → Table → Table → Table
pair_pivots m negative t u = combined m negative (λ i j. t i i) (λ i j. u j j)

-- of the pivots in row i, the place has the first that isn't a unit
pub record IsFirstInRow (m cols i : ℕ) (pivot : Table) (place : BadPivot) : Type 0 where
  pub row : place.row ≡ i
  pub col : place.col < cols
  pub bad : ¬ (IsUnit m (pivot i place.col))
  pub first : (j : ℕ) → j < place.col → IsUnit m (pivot i j)
