-- A statement with a matrix that may be its work matrix afterwards, and how its factors are read.
use Rattle.std.specs.Prelude.{◌≡◌, ◌≢◌, ℕ, ◌+◌, ◌-◌, ◌%◌, ◌^◌, ◌<◌, ◌≤◌, List, All, Bool, false, length, slice_index, slice_index_or, if◌then◌else◌}
use Rattle.residue_sums.specs.Residues.{IsModulus}
use Rattle.residue_sums.specs.Tables.{Table, oriented}
use Rattle.residue_sums.specs.Grids.{Grid, AreResidues, entry}
use Rattle.structure_rules.specs.declared.Structure.{Structure}
use Rattle.structure_rules.specs.declared.Structure.TheVariants.{General}
use Rattle.structure_rules.specs.Structures.{view}
use Rattle.operation_spec.specs.declared.operation.Operation.{Operation}
use Rattle.operation_spec.specs.declared.operation.Factor.{Factor}
use Rattle.operation_spec.specs.ValidOperations.{IsValid}
use Rattle.equation.specs.declared.candidate.Candidate.{Candidate}
use Rattle.equation.specs.declared.views.FactorView.{FactorView}
use Rattle.equation.specs.declared.job.Place.{Place}
use Rattle.equation.specs.Equations.{known_grid}
use Rattle.equation.specs.Jobs.{Fits, known_grids, nth_grid}
use Rattle.equation.specs.Pivots.{HasResidues}
use Rattle.equation.specs.Residuals.{HoldsAt}

-- the table that the view reads, its rows and its columns
abbrev pub view_table : FactorView → Table
view_table v = oriented v.primed (view v.structure (entry v.matrix.now))

abbrev pub view_rows : FactorView → ℕ
view_rows v = if v.primed then v.matrix.now.cols else v.matrix.now.rows

abbrev pub view_cols : FactorView → ℕ
view_cols v = if v.primed then v.matrix.now.rows else v.matrix.now.cols

-- its matrix is square where the structure asks for it, and its entries are below a limit
pub record IsReadable (limit : ℕ) (v : FactorView) : Type 0 where
  pub square : v.structure ≢ General → v.matrix.now.rows ≡ v.matrix.now.cols
  pub below : HasResidues limit (view_table v)

-- b added to a, or subtracted from it where `minus` is true, modulo m
abbrev pub combined_at : ℕ → Bool → ℕ → ℕ → ℕ
combined_at m minus a b = if minus then (a + (m - b)) % m else (a + b) % m

-- the matrices of the known operands, and the work matrix
abbrev pub knowns_of : Candidate → List Grid
knowns_of c = known_grids c.matrices.now c.bind.now

abbrev pub work_of : Candidate → Grid
work_of c = nth_grid c.matrices.now c.bind.now.work

-- the matrices fit a valid operation, the candidate has the shape of the work matrix, and all hold residues
pub record IsCandidate (c : Candidate) : Type 0 where
  pub modulus : IsModulus c.m
  pub valid : IsValid c.op.now
  pub fits : Fits c.op.now c.matrices.now c.bind.now
  pub residues : All (AreResidues c.m) c.matrices.now
  pub rows : c.after.now.rows ≡ (work_of c).rows
  pub cols : c.after.now.cols ≡ (work_of c).cols
  pub after : AreResidues c.m c.after.now

-- the view is that of a factor of an operation, at the matrices of the known operands
pub record IsViewOf (m : ℕ) (op : Operation) (knowns : List Grid) (f : Factor) (v : FactorView) : Type 0 where
  pub matrix : v.matrix.now ≡ known_grid knowns f.known
  pub structure : v.structure ≡ (slice_index_or op.knowns f.known op.work).structure
  pub primed : v.primed ≡ f.primed
  pub readable : IsReadable m v

abbrev pub IsFactor : Candidate → Factor → FactorView → Type 0
IsFactor c f v = IsViewOf c.m c.op.now (knowns_of c) f v

-- it is the candidate, read through a structure
pub record IsSeen (c : Candidate) (s : Structure) (v : FactorView) : Type 0 where
  pub matrix : v.matrix.now ≡ c.after.now
  pub structure : v.structure ≡ s
  pub primed : v.primed ≡ false
  pub readable : IsReadable c.m v

-- so many entries of a row, from a place on, are in the work matrix, and few
pub record IsPiece (c : Candidate) (at : Place) (width : ℕ) : Type 0 where
  pub row : at.row < (work_of c).rows
  pub within : at.col + width ≤ (work_of c).cols
  pub few : width ≤ 64
  pub places : at.col + width < 2 ^ 32

-- the numbers are those of the table's row, from a place on
abbrev pub HasPiece : Table → Place → List ℕ → Type 0
HasPiece a at numbers = (j : ℕ) → j < length numbers → slice_index numbers j ≡ a at.row (at.col + j)

-- the entry of the candidate is as it has to be
abbrev pub HoldsHere : Candidate → ℕ → ℕ → Type 0
HoldsHere c i j = HoldsAt c.m c.op.now (knowns_of c) (work_of c) c.after.now i j

-- of so many entries of a row, from one on, the place has the first that isn't
pub record IsFirstInPiece (c : Candidate) (at : Place) (width : ℕ) (place : Place) : Type 0 where
  pub row : place.row ≡ at.row
  pub from : at.col ≤ place.col
  pub to : place.col < at.col + width
  pub fails : ¬ (HoldsHere c at.row place.col)
  pub first : (j : ℕ) → at.col ≤ j → j < place.col → HoldsHere c at.row j
