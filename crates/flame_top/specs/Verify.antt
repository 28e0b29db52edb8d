-- What is due for `verify`: whether the matrices behind a job are the statements' work matrices after them.
use Rattle.std.specs.Prelude.{◌≡◌, ℕ, ◌+◌, ◌<◌, ◌⊎◌, List, ◌∷◌, ◌++◌, length, take, codes, decimal, slice_get, slice_set, Some, Err}
use Rattle.residue_sums.specs.Grids.{Grid}
use Rattle.text_scan.specs.declared.Rest.{Rest}
use Rattle.text_scan.specs.Faults.{Fault}
use Rattle.operation_spec.specs.declared.operation.Operation.{Operation}
use Rattle.equation.specs.declared.job.Job.{Job}
use Rattle.equation.specs.declared.job.Place.{Place}
use Rattle.equation.specs.declared.job.Statement.{Statement}
use Rattle.equation.specs.Equations.{Satisfies}
use Rattle.equation.specs.Jobs.{known_grids, nth_grid}
use Rattle.equation.specs.Residuals.{IsFirstResidual}
use Rattle.job_text.specs.declared.stop.Stop.TheVariants.{After}
use Rattle.job_text.specs.AfterBlocks.{SpellsAfter}
use Rattle.job_text.specs.AfterFaults.{after_in}
use Rattle.job_text.specs.SpelledJobs.{Spells, job_in}
use Rattle.flame_top.specs.Refusals.{refusal_text}

-- ---- the statements, one after another

-- matrices with those of statements in their places
abbrev pub with_after : List Statement → List Grid → List Grid → List Grid
with_after (s ∷ statements) (g ∷ after) grids = with_after statements after (slice_set grids s.bind.work g)
with_after _ _ grids = grids

-- the matrices before the statement at a place, from 0: the given ones, with those behind the job for the statements before it
abbrev pub before_statement : Job → List Grid → ℕ → List Grid
before_statement job after at = with_after (take at job.statements) (take at after) job.matrices

-- the statement at a place and its operation
pub record IsStatementAt (job : Job) (at : ℕ) (s : Statement) (op : Operation) : Type 0 where
  pub statement : slice_get job.statements at ≡ Some s
  pub operation : slice_get job.operations s.operation ≡ Some op

-- its matrix behind the job satisfies the equation of its operation
pub record Verifies (job : Job) (after : List Grid) (at : ℕ) : Type 0 where
  pub s : Statement
  pub op : Operation
  pub found : IsStatementAt job at s op
  pub satisfies : Satisfies job.modulus op (known_grids (before_statement job after at) s.bind) (nth_grid (before_statement job after at) s.bind.work) (nth_grid after at)

-- the place has the first entry at which it doesn't
pub record Differs (job : Job) (after : List Grid) (at : ℕ) (place : Place) : Type 0 where
  pub s : Statement
  pub op : Operation
  pub found : IsStatementAt job at s op
  pub first : IsFirstResidual job.modulus op (known_grids (before_statement job after at) s.bind) (nth_grid (before_statement job after at) s.bind.work) (nth_grid after at) place

-- ---- the texts

abbrev pub verified_text : ℕ → List ℕ
verified_text count = codes "verified " ++ decimal count ++ codes "\n"

-- a statement by its number, from 1
abbrev pub differs_text : ℕ → Place → List ℕ
differs_text number place = codes "differs statement " ++ decimal number ++ codes " row " ++ decimal place.row ++ codes " column " ++ decimal place.col ++ codes "\n"

-- ---- what is due

-- for a job and the matrices behind it: all verify, or the first that doesn't is told
abbrev pub DueAnswer : Job → List Grid → ℕ → List ℕ → Type 0
DueAnswer job after status text =
    (((k : ℕ) → k < length job.statements → Verifies job after k) × (status ≡ 0) × (text ≡ verified_text (length job.statements)))
    ⊎ ((at : ℕ) × (place : Place) × Differs job after at place × ((k : ℕ) → k < at → Verifies job after k) × (status ≡ 8) × (text ≡ differs_text (at + 1) place))

-- behind a job: the answer for the matrices that are spelled there, or their first fault
abbrev pub DueBehind : List ℕ → Rest → Job → ℕ → List ℕ → Type 0
DueBehind input rest job status text = ((after : List Grid) × SpellsAfter input rest job after × DueAnswer job after status text)
    ⊎ ((fault : Fault) × (after_in input rest job ≡ Err fault) × (status ≡ 3) × (text ≡ refusal_text fault))

-- for an input: what is due behind the job that it begins with, or the first fault of that job
abbrev pub DueVerify : List ℕ → ℕ → List ℕ → Type 0
DueVerify input status text = ((job : Job) × (rest : Rest) × Spells input After job rest × DueBehind input rest job status text)
    ⊎ ((fault : Fault) × (job_in After input ≡ Err fault) × (status ≡ 3) × (text ≡ refusal_text fault))
