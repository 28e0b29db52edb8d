-- Which lists of steps fit a job under a block size: statement after statement, each task once, what it needs before it.
use Rattle.std.specs.Prelude.{◌≡◌, ℕ, suc, ◌<◌, ◌≤◌, ◌⊎◌, List, [], ◌∷◌, length, map, ◌==◌, if◌then◌else◌, IsTrue}
use Rattle.std.specs.List.{range_with_len}
use Rattle.residue_sums.specs.Sums.{part_count}
use Rattle.residue_sums.specs.Grids.{Grid}
use Rattle.operation_spec.specs.declared.operation.Operation.{Operation}
use Rattle.operation_spec.specs.declared.operation.Operand.{Operand}
use Rattle.operation_spec.specs.declared.operation.Binding.{Binding}
use Rattle.operation_spec.specs.declared.task.Task.{Task}
use Rattle.operation_spec.specs.ValidOperations.{operands_of}
use Rattle.task_graph.specs.Tasks.{has}
use Rattle.task_graph.specs.Needs.{does_need}
use Rattle.equation.specs.declared.job.Job.{Job}
use Rattle.equation.specs.declared.job.Statement.{Statement}
use Rattle.equation.specs.Jobs.{nth_grid, known_grids}
use Rattle.step_replays.specs.declared.step.Step.{Step}
use Rattle.step_replays.specs.Accesses.{has_pivots, operation_of, statement_of, access_of}
use Rattle.step_replays.specs.Replays.{nth_step, pivots_task}

-- ---- how many parts each dimension has

-- the length of dimension d, as the matrix of the first operand that is on it has it
abbrev pub length_among : List Operand → List Grid → ℕ → ℕ
length_among [] grids d = 0
length_among (o ∷ operands) [] d = 0
length_among (o ∷ operands) (g ∷ grids) d =
    if o.rows == d then g.rows else if o.cols == d then g.cols else length_among operands grids d

abbrev pub length_of : Operation → List Grid → Binding → ℕ → ℕ
length_of op grids bind d = length_among (operands_of op) (nth_grid grids bind.work ∷ known_grids grids bind) d

-- the numbers of parts of the dimensions of a statement's operation
abbrev pub counts_by : ℕ → Operation → List Grid → Binding → List ℕ
counts_by b op grids bind = map (λ d. part_count (length_of op grids bind d) b) (range_with_len 0 (length op.dims))

-- statements are numbered from 1
abbrev pub counts_of : Job → ℕ → ℕ → List ℕ
counts_of job b s = counts_by b (operation_of job (statement_of job s)) job.matrices (statement_of job s).bind

-- ---- lists that fit

-- step p of the list has task u of statement s
abbrev pub IsAt : List Step → ℕ → ℕ → Task → Type 0
IsAt steps p s u = (p < length steps) × ((nth_step steps p).statement ≡ s) × ((nth_step steps p).task ≡ u)

-- the tasks of an operation under these counts, with Pivots where it has it
abbrev pub IsTaskOf : Operation → List ℕ → Task → Type 0
IsTaskOf op counts u = ((u ≡ pivots_task) × IsTrue (has_pivots op)) ⊎ IsTrue (has op counts u)

pub record FitsJob (job : Job) (b : ℕ) (steps : List Step) : Type 0 where
  -- statement after statement
  pub sorted : (p q : ℕ) → p < q → q < length steps → (nth_step steps p).statement ≤ (nth_step steps q).statement
  -- each step has a task of its statement, with its accesses
  pub exists : (p : ℕ) → p < length steps → ((s : ℕ) × ((nth_step steps p).statement ≡ suc s) × (s < length job.statements))
      × IsTaskOf (operation_of job (statement_of job (nth_step steps p).statement)) (counts_of job b (nth_step steps p).statement) (nth_step steps p).task
      × ((nth_step steps p).access ≡ access_of job b (nth_step steps p).statement (nth_step steps p).task)
  -- each task of each statement has just one step
  pub all : (s : ℕ) (u : Task) → s < length job.statements
      → IsTaskOf (operation_of job (statement_of job (suc s))) (counts_of job b (suc s)) u → (p : ℕ) × IsAt steps p (suc s) u
  pub once : (p q s : ℕ) (u : Task) → IsAt steps p s u → IsAt steps q s u → p ≡ q
  -- Pivots is the first of its statement, and what a task needs comes before it
  pub pivots_first : (p q s : ℕ) (u : Task) → IsAt steps p s pivots_task → IsAt steps q s u → p ≤ q
  pub needs_before : (p q s : ℕ) (u v : Task) → IsAt steps p s u → IsAt steps q s v
      → IsTrue (does_need (operation_of job (statement_of job s)) u v) → q < p
