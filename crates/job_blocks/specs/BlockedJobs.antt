-- Jobs under a block size: which blocks they have, and the matrices that blocks make.
use Rattle.std.specs.Prelude.{◌≡◌, ℕ, ◌+◌, ◌<◌, ◌≤◌, List, length, map}
use Rattle.std.specs.List.{range_with_len}
use Rattle.residue_sums.specs.Sums.{part_count, part_length}
use Rattle.residue_sums.specs.Grids.{Grid}
use Rattle.operation_spec.specs.declared.operation.Operation.{Operation}
use Rattle.operation_spec.specs.declared.operation.Binding.{Binding}
use Rattle.operation_spec.specs.declared.task.Task.{Task}
use Rattle.equation.specs.declared.job.Job.{Job}
use Rattle.equation.specs.Jobs.{IsJob, nth_grid}
use Rattle.flash_blocks.specs.Blocks.{gathered, grid_of}
use Rattle.flash_blocks.specs.Flashes.{HasShape}
use Rattle.step_replays.specs.Accesses.{blocks_in, block_number, lists_of, first_block, operation_of, statement_of}
use Rattle.step_replays.specs.Fits.{counts_of, IsTaskOf}

-- a job under block size b
pub record BlockedJob : Type 0 where
  pub job : Job
  pub b : ℕ

pub record IsBlockedJob (x : BlockedJob) : Type 0 where
  pub job : IsJob x.job
  pub size : 1 ≤ x.b

-- ---- blocks

-- matrix k has a block (i, j)
pub record HasBlock (x : BlockedJob) (k i j : ℕ) : Type 0 where
  pub matrix : k < length x.job.matrices
  pub row : i < part_count (nth_grid x.job.matrices k).rows x.b
  pub col : j < part_count (nth_grid x.job.matrices k).cols x.b

-- its number
abbrev pub number_at : BlockedJob → ℕ → ℕ → ℕ → ℕ
number_at x k i j = block_number x.b x.job.matrices k i j

-- how many blocks there are, with the pivot lists
abbrev pub block_total : BlockedJob → ℕ
block_total x = blocks_in x.b x.job.matrices + lists_of x.job x.job.statements

-- all blocks by number, as the job gives them
pub record AreFirstBlocks (x : BlockedJob) (blocks : List Grid) : Type 0 where
  pub count : length blocks ≡ block_total x
  pub each : (n : ℕ) → n < block_total x → nth_grid blocks n ≡ first_block x.job x.b n

-- each block of matrix k has the shape of its parts
abbrev pub HaveBlockShapesOf : BlockedJob → ℕ → List Grid → Type 0
HaveBlockShapesOf x k blocks = (i j : ℕ) → HasBlock x k i j → HasShape (part_length (nth_grid x.job.matrices k).rows x.b i)
    (part_length (nth_grid x.job.matrices k).cols x.b j) (nth_grid blocks (number_at x k i j))

-- at least the blocks of all matrices, each with the shape of its parts
pub record HaveBlockShapes (x : BlockedJob) (blocks : List Grid) : Type 0 where
  pub count : blocks_in x.b x.job.matrices ≤ length blocks
  pub shapes : (k : ℕ) → HaveBlockShapesOf x k blocks

-- the matrix that has these blocks, with the rows and columns of matrix k
abbrev pub gathered_matrix : BlockedJob → List Grid → ℕ → Grid
gathered_matrix x blocks k = grid_of (gathered x.b (λ i j. nth_grid blocks (number_at x k i j)))
    (nth_grid x.job.matrices k).rows (nth_grid x.job.matrices k).cols

abbrev pub gathered_matrices : BlockedJob → List Grid → List Grid
gathered_matrices x blocks = map (gathered_matrix x blocks) (range_with_len 0 (length x.job.matrices))

-- ---- statements, numbered from 1

pub record HasStatement (x : BlockedJob) (s : ℕ) : Type 0 where
  pub from : 1 ≤ s
  pub within : s ≤ length x.job.statements

abbrev pub operation_at : BlockedJob → ℕ → Operation
operation_at x s = operation_of x.job (statement_of x.job s)

abbrev pub binding_at : BlockedJob → ℕ → Binding
binding_at x s = (statement_of x.job s).bind

abbrev pub counts_at : BlockedJob → ℕ → List ℕ
counts_at x s = counts_of x.job x.b s

-- the statement has this task, which may be Pivots
abbrev pub HasTask : BlockedJob → ℕ → Task → Type 0
HasTask x s u = IsTaskOf (operation_at x s) (counts_at x s) u
