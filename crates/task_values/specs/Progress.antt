-- How far a list of steps was gone through: what its first steps came to, and what is held of that.
use Rattle.std.specs.Prelude.{◌≡◌, ℕ, ◌<◌, ◌≤◌, List, length, replicate, false, All, IsTrue, Option, None, Some}
use Rattle.residue_sums.specs.Grids.{Grid, AreResidues}
use Rattle.operation_spec.specs.declared.operation.Operation.{Operation}
use Rattle.equation.specs.Jobs.{IsJob, nth_grid}
use Rattle.equation.specs.declared.job.Place.{Place}
use Rattle.dependence_queue.specs.Conflicts.{has_number}
use Rattle.step_replays.specs.declared.step.Step.{Step}
use Rattle.step_replays.specs.Accesses.{operation_of, statement_of}
use Rattle.step_replays.specs.Fits.{FitsJob}
use Rattle.step_replays.specs.Replays.{StepResult, Ran, Failed, IsFront, IsResult, IsStopped, block_after, nth_access, nth_result, nth_step}
use Rattle.job_blocks.specs.BlockedJobs.{AreFirstBlocks, BlockedJob, block_total}
use Rattle.task_values.specs.declared.outcome.Failure.{Failure}
use Rattle.task_values.specs.declared.run.Run.{Run}
use Rattle.task_values.specs.declared.store.Store.{Store}
use Rattle.task_values.specs.Marks.{AreMarks, IsLost}

-- a valid job under a block size, and steps that fit it
pub record IsRun (r : Run) : Type 0 where
  pub job : IsJob r.job.now
  pub size : 1 ≤ r.b
  pub fit : FitsJob r.job.now r.b r.steps.now

-- the operation of step n, and the matrix that its work operand is bound to
abbrev pub operation_at : Run → ℕ → Operation
operation_at r n = operation_of r.job.now (statement_of r.job.now (nth_step r.steps.now n).statement)

abbrev pub work_at : Run → ℕ → Grid
work_at r n = nth_grid r.job.now.matrices (statement_of r.job.now (nth_step r.steps.now n).statement).bind.work

-- ---- the next step

-- step n comes next, no step before it stops it, and these are the blocks that it finds: the one that it writes, and in a store
-- of residues those that it reads
pub record IsNext (r : Run) (results : List StepResult) (n : ℕ) (store : List Grid) (old : Grid) : Type 0 where
  pub within : n < length r.steps.now
  pub front : IsFront r.job.now r.b r.steps.now results n
  pub active : IsStopped r.job.now r.b r.steps.now results n → ⊥
  pub count : length store ≡ block_total (record { job = r.job.now; b = r.b })
  pub residues : All (AreResidues r.job.now.modulus) store
  pub reads : (x : ℕ) → IsTrue (has_number (nth_access r.steps.now n).reads x)
      → nth_grid store x ≡ block_after r.job.now r.b r.steps.now results n x
  pub block : old ≡ block_after r.job.now r.b r.steps.now results n (nth_access r.steps.now n).write

abbrev pub IsReady : Run → ℕ → List Grid → Grid → Type 0
IsReady r n store old = (results : List StepResult) × IsNext r results n store old

-- it leaves this block
abbrev pub Leaves : Run → ℕ → List Grid → Grid → Grid → Type 0
Leaves r n store old new = (results : List StepResult) → IsNext r results n store old → IsResult r.job.now r.b r.steps.now results n (Ran new)

-- it meets a bad pivot
abbrev pub Fails : Run → ℕ → List Grid → Grid → Place → Type 0
Fails r n store old place = (results : List StepResult) → IsNext r results n store old → IsResult r.job.now r.b r.steps.now results n (Failed place)

-- ---- before the first step

-- the blocks that the job gives, no marks, and no failure
pub record IsFirstStore (x : BlockedJob) (s : Store) : Type 0 where
  pub blocks : AreFirstBlocks x s.blocks.items
  pub written : s.marks.written.items ≡ replicate (length s.blocks.items) false
  pub read : s.marks.read.items ≡ replicate (length s.blocks.items) false
  pub room : length s.room.items ≡ x.b
  pub failure : s.failure ≡ None

-- ---- the first steps

-- the first of the first n steps that failed
pub record IsFirstFailure (steps : List Step) (results : List StepResult) (n : ℕ) (failure : Failure) : Type 0 where
  pub step : ℕ
  pub within : step < n
  pub failed : nth_result results step ≡ Failed (record { row = failure.row; col = failure.col })
  pub of : (nth_step steps step).statement ≡ failure.statement
  pub first : (q : ℕ) (place : Place) → q < step → nth_result results q ≡ Failed place → ⊥

abbrev pub IsNoted : List Step → List StepResult → ℕ → Option Failure → Type 0
IsNoted steps results n None = (q : ℕ) (place : Place) → q < n → nth_result results q ≡ Failed place → ⊥
IsNoted steps results n (Some failure) = IsFirstFailure steps results n failure

-- what is held after the first n steps: each block but those that steps write that failed or were skipped, the marks of such
-- steps, and the first that failed
pub record IsHeldAfter (r : Run) (results : List StepResult) (n : ℕ) (s : Store) : Type 0 where
  pub front : IsFront r.job.now r.b r.steps.now results n
  pub count : length s.blocks.items ≡ block_total (record { job = r.job.now; b = r.b })
  pub residues : All (AreResidues r.job.now.modulus) s.blocks.items
  pub blocks : (x : ℕ) → x < length s.blocks.items → (IsLost r.steps.now results n x → ⊥)
      → nth_grid s.blocks.items x ≡ block_after r.job.now r.b r.steps.now results n x
  pub marks : AreMarks r.steps.now results n (length s.blocks.items) s.marks.written.items s.marks.read.items
  pub room : r.b ≤ length s.room.items
  pub noted : IsNoted r.steps.now results n s.failure

abbrev pub IsGone : Run → ℕ → Store → Type 0
IsGone r n s = (results : List StepResult) × IsHeldAfter r results n s

-- and no step before it stops step n
abbrev pub IsActive : Run → ℕ → Store → Type 0
IsActive r n s = (results : List StepResult) × IsHeldAfter r results n s × (IsStopped r.job.now r.b r.steps.now results n → ⊥)

-- or one does
abbrev pub IsStoppedAt : Run → ℕ → Store → Type 0
IsStoppedAt r n s = (results : List StepResult) × IsHeldAfter r results n s × IsStopped r.job.now r.b r.steps.now results n

-- the earlier failure, if there is one
abbrev pub first_of : Option Failure → Failure → Option Failure
first_of None later = Some later
first_of (Some earlier) later = Some earlier
