-- Steps that are gone through in their order: what becomes of each, and what the blocks hold on the way.
use Rattle.std.specs.Prelude.{◌≡◌, ℕ, zero, suc, ◌+◌, ◌*◌, ◌/◌, ◌%◌, ◌<◌, ◌≤◌, List, [], ◌∷◌, length, map, Bool, true, false, ◌==◌, ◌&&◌, nat_lt, if◌then◌else◌, slice_index, slice_index_or, IsTrue}
use Rattle.std.specs.List.{range_with_len}
use Rattle.residue_sums.specs.Sums.{part_count}
use Rattle.residue_sums.specs.Grids.{Grid}
use Rattle.operation_spec.specs.declared.operation.Binding.{Binding}
use Rattle.operation_spec.specs.declared.task.Kind.{Kind}
use Rattle.operation_spec.specs.declared.task.Kind.TheVariants as kinds
use Rattle.operation_spec.specs.declared.task.Task.{Task}
use Rattle.task_graph.specs.Order.{task_of}
use Rattle.equation.specs.declared.job.Job.{Job}
use Rattle.equation.specs.declared.job.Place.{Place}
use Rattle.equation.specs.declared.job.Statement.{Statement}
use Rattle.equation.specs.Jobs.{nth_grid, no_grid}
use Rattle.flash_blocks.specs.Blocks.{Blocks, gathered, grid_of}
use Rattle.dependence_queue.specs.declared.access.Access.{Access}
use Rattle.dependence_queue.specs.Conflicts.{conflicts}
use Rattle.block_tasks.specs.Effects.{effect_by, bad_by, pivots_effect, bad_pivots}
use Rattle.step_replays.specs.declared.step.Step.{Step}
use Rattle.step_replays.specs.Accesses.{block_number, first_block, operation_of, statement_of}

-- ---- outcomes of steps, and the blocks

-- what becomes of a step: it leaves a block, is skipped, or meets a bad pivot
pub data StepResult : Type 0 where
  Ran : Grid → StepResult
  Skipped : StepResult
  Failed : Place → StepResult

abbrev pub pivots_task : Task
pivots_task = task_of kinds.Pivots 0 0 0 0

abbrev pub no_step : Step
no_step = record { statement = 0; task = pivots_task; access = record { write = 0; reads = [] } }

-- steps and their outcomes by number, from 0
abbrev pub nth_step : List Step → ℕ → Step
nth_step steps s = slice_index_or steps s no_step

abbrev pub nth_access : List Step → ℕ → Access
nth_access steps s = (nth_step steps s).access

abbrev pub nth_result : List StepResult → ℕ → StepResult
nth_result results s = slice_index_or results s Skipped

-- the block that a step writes, after it
abbrev pub written : StepResult → Grid → Grid
written (Ran value) old = value
written Skipped old = old
written (Failed place) old = old

-- the step failed or was skipped
abbrev pub IsStop : StepResult → Type 0
IsStop (Ran value) = ⊥
IsStop Skipped = Unit {0}
IsStop (Failed place) = Unit {0}

module _ (job : Job) (b : ℕ) (steps : List Step) (results : List StepResult) where
  -- block x after the first s steps
  abbrev pub block_after : ℕ → ℕ → Grid
  block_after zero x = first_block job b x
  block_after (suc s) x = if (nth_step steps s).access.write == x then written (nth_result results s) (block_after s x) else block_after s x

  -- block (i, j) of matrix k after the first s steps; past its rows and columns of blocks there is none
  abbrev pub blocks_after : ℕ → ℕ → Blocks
  blocks_after s k i j = if nat_lt i (part_count (nth_grid job.matrices k).rows b) && nat_lt j (part_count (nth_grid job.matrices k).cols b)
      then block_after s (block_number b job.matrices k i j) else no_grid

  -- matrix k, and all matrices, after the first s steps
  abbrev pub matrix_after : ℕ → ℕ → Grid
  matrix_after s k = grid_of (gathered b (blocks_after s k)) (nth_grid job.matrices k).rows (nth_grid job.matrices k).cols

  abbrev pub matrices_after : ℕ → List Grid
  matrices_after s = map (matrix_after s) (range_with_len 0 (length job.matrices))

  -- how many of the first s steps write block x
  abbrev pub writes_before : ℕ → ℕ → ℕ
  writes_before zero x = 0
  writes_before (suc s) x = if (nth_step steps s).access.write == x then suc (writes_before s x) else writes_before s x

  -- block x after the first v of the steps among the first s that write it
  abbrev pub value_within : ℕ → ℕ → ℕ → Grid
  value_within zero x v = first_block job b x
  value_within (suc s) x v = if (nth_step steps s).access.write == x && nat_lt (writes_before s x) v
      then written (nth_result results s) (value_within s x v) else value_within s x v

  -- block x after the first v of the steps that write it
  abbrev pub value : ℕ → ℕ → Grid
  value x v = value_within (length steps) x v

  -- step s conflicts with an earlier step that failed or was skipped
  abbrev pub IsStopped : ℕ → Type 0
  IsStopped s = (q : ℕ) × (q < s) × IsStop (nth_result results q) × IsTrue (conflicts (nth_access steps q) (nth_access steps s))

-- ---- what a step may do to the blocks that it finds

-- the blocks of the known matrices of a statement, out of those of all matrices
abbrev pub known_blocks : (ℕ → Blocks) → Binding → ℕ → Blocks
known_blocks blocks bind k = blocks (slice_index bind.knowns k)

-- a task of a kind meets a bad pivot
abbrev pub bad_step_by : Job → ℕ → (ℕ → Blocks) → Statement → Kind → Task → Place → Type 0
bad_step_by job b blocks s kinds.Pivots task place = bad_pivots job.modulus b (operation_of job s) (known_blocks blocks s.bind)
    (nth_grid job.matrices s.bind.work).rows (nth_grid job.matrices s.bind.work).cols (operation_of job s).form place
bad_step_by job b blocks s kind task place = bad_by job.modulus b (operation_of job s).form (blocks s.bind.work) kind task.i task.j place

abbrev pub IsBadStep : Job → ℕ → (ℕ → Blocks) → Statement → Task → Place → Type 0
IsBadStep job b blocks s task place = bad_step_by job b blocks s task.kind task place

-- a task of a kind makes a new block of the old one
abbrev pub step_value_by : Job → ℕ → (ℕ → Blocks) → Statement → Kind → Task → Grid → Grid → Type 0
step_value_by job b blocks s kinds.Pivots task old new =
    pivots_effect job.modulus b (operation_of job s) (known_blocks blocks s.bind) (operation_of job s).form old new
step_value_by job b blocks s kind task old new =
    effect_by job.modulus (operation_of job s) (known_blocks blocks s.bind) (blocks s.bind.work) kind task.term task.i task.j task.k new

abbrev pub IsStepValue : Job → ℕ → (ℕ → Blocks) → Statement → Task → Grid → Grid → Type 0
IsStepValue job b blocks s task old new = step_value_by job b blocks s task.kind task old new

-- ---- the replay

-- what becomes of step s, by what the steps before it left
abbrev pub IsResult : Job → ℕ → List Step → List StepResult → ℕ → StepResult → Type 0
IsResult job b steps results s (Ran v) = (IsStopped job b steps results s → ⊥)
    × ((place : Place) → IsBadStep job b (blocks_after job b steps results s) (statement_of job (nth_step steps s).statement) (nth_step steps s).task place → ⊥)
    × IsStepValue job b (blocks_after job b steps results s) (statement_of job (nth_step steps s).statement) (nth_step steps s).task
    (block_after job b steps results s (nth_step steps s).access.write) v
IsResult job b steps results s Skipped = IsStopped job b steps results s
IsResult job b steps results s (Failed place) = (IsStopped job b steps results s → ⊥)
    × IsBadStep job b (blocks_after job b steps results s) (statement_of job (nth_step steps s).statement) (nth_step steps s).task place

-- these are the outcomes of the steps of a job, gone through in their order
pub record IsReplay (job : Job) (b : ℕ) (steps : List Step) (results : List StepResult) : Type 0 where
  pub count : length results ≡ length steps
  pub each : (s : ℕ) → s < length steps → IsResult job b steps results s (nth_result results s)

-- these are the outcomes of the first n steps of a job, gone through in their order
pub record IsFront (job : Job) (b : ℕ) (steps : List Step) (results : List StepResult) (n : ℕ) : Type 0 where
  pub within : n ≤ length steps
  pub count : length results ≡ n
  pub each : (s : ℕ) → s < n → IsResult job b steps results s (nth_result results s)

-- ---- the outcome of a job

-- no step failed
abbrev pub IsDone : List Step → List StepResult → Type 0
IsDone steps results = (s : ℕ) (place : Place) → s < length steps → nth_result results s ≡ Failed place → ⊥

-- the step that failed, of the least statement
pub record IsFailure (steps : List Step) (results : List StepResult) (statement : ℕ) (place : Place) : Type 0 where
  pub step : ℕ
  pub within : step < length steps
  pub failed : nth_result results step ≡ Failed place
  pub of : (nth_step steps step).statement ≡ statement
  pub least : (s : ℕ) (other : Place) → s < length steps → nth_result results s ≡ Failed other → statement ≤ (nth_step steps s).statement
