-- Steps that fit a valid job, of which the first ones were gone through, as one thing, and short names for what they find. Cited by all that goes
-- from a replay, or the front of one, to what the job means.
use Rattle.std.proofs.Common.{◌≡◌, ◌≢◌, ℕ, suc, ◌<◌, ◌≤◌, inl, inr, Bool, true, false, List, length, slice_get, Some, sym, ◌∙◌, ap, arith}
use Rattle.std.proofs.lemmas.Bool.{cases_lt, false≢true}
use Rattle.std.proofs.lemmas.List.{get_or_past}
use Rattle.std.proofs.lemmas.List.Elements.{All-get_or}
use Rattle.residue_sums.specs.Grids.{Grid, AreResidues}
use Rattle.operation_spec.specs.declared.operation.Operation.{Operation}
use Rattle.operation_spec.specs.declared.operation.Binding.{Binding}
use Rattle.equation.specs.declared.job.Job.{Job}
use Rattle.equation.specs.declared.job.Place.{Place}
use Rattle.equation.specs.declared.job.Statement.{Statement}
use Rattle.operation_spec.specs.ValidOperations.{IsValid}
use Rattle.equation.specs.Jobs.{Fits, IsJob, nth_grid, no_grid}
use Rattle.equation.proofs.JobMeanings.{AreKept, fits_kept}
use Rattle.block_tasks.specs.Counts.{AreCounts}
use Rattle.flash_blocks.specs.Blocks.{Blocks}
use Rattle.dependence_queue.specs.declared.access.Access.{Access}
use Rattle.step_replays.specs.declared.step.Step.{Step}
use Rattle.step_replays.specs.Accesses.{operation_of, statement_of}
use Rattle.step_replays.specs.Replays.{StepResult, Ran, Skipped, Failed, nth_step, nth_access, nth_result, block_after, blocks_after, matrix_after, matrices_after, IsResult, IsStopped, IsReplay, IsFront}
use Rattle.step_replays.specs.Fits.{counts_of, FitsJob}
use Rattle.step_replays.proofs.StatementCuts.{HasWorkMatrix, has-work_matrix, is_statement, operation-fits, operation-valid, operation-found, counts-before}

-- ---- outcomes of which a step isn't skipped

is_outcome : StepResult → Bool
is_outcome (Ran v) = true
is_outcome Skipped = false
is_outcome (Failed place) = true

outcome-active : (x : StepResult) → is_outcome x ≡ true → x ≢ Skipped
unfolding is_outcome
outcome-active x h e = false≢true (sym (ap is_outcome e) ∙ h)

pub ran-active : (x : StepResult) (v : Grid) → x ≡ Ran v → x ≢ Skipped
unfolding is_outcome
ran-active x v e = outcome-active x (ap is_outcome e)

pub failed-active : (x : StepResult) (place : Place) → x ≡ Failed place → x ≢ Skipped
unfolding is_outcome
failed-active x place e = outcome-active x (ap is_outcome e)

-- ---- the replay

-- a whole replay is the front of all steps
pub whole-front : (job : Job) (b : ℕ) (steps : List Step) (results : List StepResult) → IsReplay job b steps results → IsFront job b steps results (length steps)
whole-front job b steps results replay = record { within = omega arith; count = replay.count; each = replay.each }

-- the first `done` steps were gone through
pub record JobReplay : Type 0 where
  pub job : Job
  pub b : ℕ
  pub steps : List Step
  pub results : List StepResult
  pub pos : 0 < b
  pub valid : IsJob job
  pub fits : FitsJob job b steps
  pub done : ℕ
  pub outcomes : IsFront job b steps results done

module _ (replay : JobReplay) where
  pub two : 2 ≤ replay.job.modulus
  two = replay.valid.modulus.at_least_two

  pub cuts : (t : ℕ) → t < length replay.job.statements → HasWorkMatrix replay.job replay.b t
  cuts t t_in = has-work_matrix replay.job replay.valid t t_in replay.job.modulus replay.b two replay.pos

  -- steps, their accesses and their outcomes
  abbrev pub step_at : ℕ → Step
  step_at s = nth_step replay.steps s

  abbrev pub access_at : ℕ → Access
  access_at s = nth_access replay.steps s

  abbrev pub result_at : ℕ → StepResult
  result_at s = nth_result replay.results s

  -- a step that isn't skipped was gone through
  pub active-done : (s : ℕ) → nth_result replay.results s ≢ Skipped → s < replay.done
  active-done s active = elim (cases_lt s replay.done) [
    | inl below ↦ below
    | inr past ↦ absurd (active (get_or_past replay.results s Skipped (omega (arith, replay.outcomes.count))))
  ]

  pub ran-done : (s : ℕ) (v : Grid) → nth_result replay.results s ≡ Ran v → s < replay.done
  ran-done s v ran = active-done s (ran-active (result_at s) v ran)

  pub failed-done : (s : ℕ) (place : Place) → nth_result replay.results s ≡ Failed place → s < replay.done
  failed-done s place failed = active-done s (failed-active (result_at s) place failed)

  -- blocks and matrices before a step
  abbrev pub block_at : ℕ → ℕ → Grid
  block_at s = block_after replay.job replay.b replay.steps replay.results s

  abbrev pub blocks_at : ℕ → ℕ → Blocks
  blocks_at s = blocks_after replay.job replay.b replay.steps replay.results s

  abbrev pub matrix_at : ℕ → ℕ → Grid
  matrix_at s = matrix_after replay.job replay.b replay.steps replay.results s

  abbrev pub matrices_at : ℕ → List Grid
  matrices_at s = matrices_after replay.job replay.b replay.steps replay.results s

  -- what becomes of a step
  abbrev pub IsResultAt : ℕ → StepResult → Type 0
  IsResultAt s = IsResult replay.job replay.b replay.steps replay.results s

  abbrev pub IsStoppedAt : ℕ → Type 0
  IsStoppedAt s = IsStopped replay.job replay.b replay.steps replay.results s

  -- statement t + 1
  abbrev pub own_statement : ℕ → Statement
  own_statement t = statement_of replay.job (suc t)

  abbrev pub own_operation : ℕ → Operation
  own_operation t = operation_of replay.job (statement_of replay.job (suc t))

  abbrev pub own_binding : ℕ → Binding
  own_binding t = (statement_of replay.job (suc t)).bind

  abbrev pub own_counts : ℕ → List ℕ
  own_counts t = counts_of replay.job replay.b (suc t)

  -- its operation fits the job's matrices
  pub own_fits : (t : ℕ) → t < length replay.job.statements → Fits (operation_of replay.job (statement_of replay.job (suc t))) replay.job.matrices (statement_of replay.job (suc t)).bind
  own_fits t t_in = operation-fits replay.job replay.valid t t_in

  pub own_valid : (t : ℕ) → t < length replay.job.statements → IsValid (operation_of replay.job (statement_of replay.job (suc t)))
  own_valid t t_in = operation-valid replay.job replay.valid t t_in

  pub own_found : (t : ℕ) → t < length replay.job.statements
      → slice_get replay.job.operations (statement_of replay.job (suc t)).operation ≡ Some (operation_of replay.job (statement_of replay.job (suc t)))
  own_found t t_in = operation-found replay.job replay.valid t t_in

  -- and so it fits matrices that keep what statements keep
  module _ (t : ℕ) (t_in : t < length replay.job.statements) (grids : List Grid) (kept : AreKept replay.job grids) where
    pub kept_fits : Fits (operation_of replay.job (statement_of replay.job (suc t))) grids (statement_of replay.job (suc t)).bind
    kept_fits = fits_kept replay.job replay.valid (statement_of replay.job (suc t)) (operation_of replay.job (statement_of replay.job (suc t))) grids
        (is_statement replay.job replay.valid t t_in) (own_found t t_in) kept

    pub kept_counts : AreCounts replay.b (length (operation_of replay.job (statement_of replay.job (suc t))).dims) kept_fits.lengths (counts_of replay.job replay.b (suc t))
    kept_counts = counts-before replay.job replay.valid t t_in grids kept.sizes kept_fits replay.b

    pub kept_residues : AreResidues replay.job.modulus (nth_grid grids (statement_of replay.job (suc t)).bind.work)
    kept_residues = All-get_or (AreResidues replay.job.modulus) grids (statement_of replay.job (suc t)).bind.work no_grid kept_fits.work_in kept.residues
