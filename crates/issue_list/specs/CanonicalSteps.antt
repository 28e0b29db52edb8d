-- The canonical list of the steps of a job under a block size, and how long it may be.
use Rattle.std.specs.Prelude.{ℕ, ◌+◌, ◌<◌, ◌≤◌, List, [], ◌∷◌, ◌++◌, length, map, if◌then◌else◌}
use Rattle.std.specs.List.{flat_map, range_with_len}
use Rattle.operation_spec.specs.declared.operation.Operation.{Operation}
use Rattle.operation_spec.specs.declared.task.Task.{Task}
use Rattle.task_graph.specs.Order.{tasks_of}
use Rattle.task_graph.specs.Tasks.{parts_of}
use Rattle.equation.specs.declared.job.Job.{Job}
use Rattle.step_replays.specs.declared.step.Step.{Step}
use Rattle.step_replays.specs.Accesses.{access_of, has_pivots, operation_of, statement_of}
use Rattle.step_replays.specs.Fits.{counts_of}
use Rattle.step_replays.specs.Replays.{pivots_task}

-- ---- the list; statements are numbered from 1

-- the test of the pivots, where the operation has one
abbrev pub pivots_tasks : Operation → List Task
pivots_tasks op = if has_pivots op then pivots_task ∷ [] else []

abbrev pub statement_tasks : Job → ℕ → ℕ → List Task
statement_tasks job b s = pivots_tasks (operation_of job (statement_of job s)) ++ tasks_of (operation_of job (statement_of job s)) (counts_of job b s)

-- the step of a task
abbrev pub step_of : Job → ℕ → ℕ → Task → Step
step_of job b s u = record { statement = s; task = u; access = access_of job b s u }

unfoldable pub statement_steps : Job → ℕ → ℕ → List Step
statement_steps job b s = map (step_of job b s) (statement_tasks job b s)

-- how many they are: its block tasks, and one more where its pivots are tested
abbrev pub step_count : Job → ℕ → ℕ → ℕ
step_count job b s = (if has_pivots (operation_of job (statement_of job s)) then 1 else 0) + length (tasks_of (operation_of job (statement_of job s)) (counts_of job b s))

unfoldable pub canonical_steps : Job → ℕ → List Step
canonical_steps job b = flat_map (statement_steps job b) (range_with_len 1 (length job.statements))

-- ---- limits

-- into how many parts a dimension may be cut, and how many steps there may be
abbrev pub most_parts : ℕ
most_parts = 32

abbrev pub most_steps : ℕ
most_steps = 262144

-- dimension d of statement s is one that its operation declares
pub record HasDimension (job : Job) (s d : ℕ) : Type 0 where
  pub from : 1 ≤ s
  pub within : s ≤ length job.statements
  pub declared : d < length (operation_of job (statement_of job s)).dims

abbrev pub parts_at : Job → ℕ → ℕ → ℕ → ℕ
parts_at job b s d = parts_of (counts_of job b s) d

-- of the dimensions of statement s it is the first that is cut into too many parts
pub record IsFirstLongOf (job : Job) (b s d : ℕ) : Type 0 where
  pub has : HasDimension job s d
  pub long : most_parts < parts_at job b s d
  pub dimensions : (e : ℕ) → e < d → parts_at job b s e ≤ most_parts

-- and no statement before s has such a dimension
pub record IsFirstLong (job : Job) (b s d : ℕ) : Type 0 where
  pub own : IsFirstLongOf job b s d
  pub statements : (t e : ℕ) → t < s → HasDimension job t e → parts_at job b t e ≤ most_parts

-- no dimension is cut into too many parts
abbrev pub HasFewParts : Job → ℕ → Type 0
HasFewParts job b = (s d : ℕ) → HasDimension job s d → parts_at job b s d ≤ most_parts
