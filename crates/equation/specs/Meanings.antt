-- What a job means: the matrices after its last statement, or its first bad pivot.
use Rattle.std.specs.Prelude.{◌≡◌, ℕ, ◌+◌, ◌⊎◌, List, [], ◌∷◌, slice_get, slice_set, Some}
use Rattle.residue_sums.specs.Grids.{Grid}
use Rattle.operation_spec.specs.declared.operation.Operation.{Operation}
use Rattle.operation_spec.specs.declared.operation.Form.TheVariants.{Assign}
use Rattle.equation.specs.declared.job.Job.{Job}
use Rattle.equation.specs.declared.job.Place.{Place}
use Rattle.equation.specs.declared.job.Statement.{Statement}
use Rattle.equation.specs.Equations.{Satisfies}
use Rattle.equation.specs.Jobs.{known_grids, nth_grid}
use Rattle.equation.specs.Pivots.{IsFirstBadPivot}

-- a statement meets a bad pivot at these matrices
pub record Fails (job : Job) (s : Statement) (before : List Grid) (place : Place) : Type 0 where
  pub operation : Operation
  pub found : slice_get job.operations s.operation ≡ Some operation
  pub pivot : IsFirstBadPivot job.modulus operation (known_grids before s.bind) (nth_grid before s.bind.work) place

-- a statement turns matrices into others: it meets no bad pivot, its work matrix becomes one that satisfies the equation
-- of its operation, and the others stay
pub record Changes (job : Job) (s : Statement) (before after : List Grid) : Type 0 where
  pub operation : Operation
  pub found : slice_get job.operations s.operation ≡ Some operation
  pub pivots : (place : Place) → IsFirstBadPivot job.modulus operation (known_grids before s.bind) (nth_grid before s.bind.work) place → ⊥
  pub solution : Grid
  pub satisfies : Satisfies job.modulus operation (known_grids before s.bind) (nth_grid before s.bind.work) solution
  pub others : after ≡ slice_set before s.bind.work solution

-- statements turn matrices into others, one after another
abbrev pub ChangeAll : Job → List Statement → List Grid → List Grid → Type 0
ChangeAll job [] before after = after ≡ before
ChangeAll job (s ∷ statements) before after = (between : List Grid) × Changes job s before between × ChangeAll job statements between after

-- of statements that are done one after another, the one with this number, from 1, is the first that meets a bad pivot
abbrev pub FailAt : Job → List Statement → List Grid → ℕ → Place → Type 0
FailAt job [] before number place = ⊥
FailAt job (s ∷ statements) before number place = ((number ≡ 1) × Fails job s before place)
    ⊎ ((between : List Grid) × (behind : ℕ) × (number ≡ behind + 1) × Changes job s before between × FailAt job statements between behind place)

-- the matrices that the job leaves
abbrev pub Means : Job → List Grid → Type 0
Means job after = ChangeAll job job.statements job.matrices after

-- the first bad pivot of the job: the statement's number and the place
abbrev pub MeansBadPivot : Job → ℕ → Place → Type 0
MeansBadPivot job number place = FailAt job job.statements job.matrices number place

-- the statement's operation has the form `X = R`
pub record IsAssignment (job : Job) (s : Statement) : Type 0 where
  pub operation : Operation
  pub found : slice_get job.operations s.operation ≡ Some operation
  pub form : operation.form ≡ Assign
