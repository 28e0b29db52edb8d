-- Lists of steps that were worked by hand: an LU of two by two blocks, and behind it a lower triangular system with two rows of blocks; and the
-- tasks of an LU of three by three blocks, and of a lower triangular system with one row of blocks, by variants.
use Rattle.std.specs.Prelude.{ℕ, List, [], ◌∷◌}
use Rattle.operation_spec.specs.declared.task.Kind.{Kind}
use Rattle.operation_spec.specs.declared.task.Kind.TheVariants.{Left, Pivots, Solve}
use Rattle.task_graph.specs.Order.{task_of}
use Rattle.operation_spec.specs.declared.task.Task.{Task}
use Rattle.step_replays.specs.declared.step.Step.{Step}

-- a step of statement s for block (i, j) with the inner part k, and the blocks that it writes and reads
abbrev pub step : ℕ → Kind → ℕ → ℕ → ℕ → ℕ → List ℕ → Step
step s kind i j k write reads = record { statement = s; task = task_of kind 0 i j k; access = record { write = write; reads = reads } }

abbrev pub nine_steps : List Step
nine_steps = step 1 Solve 0 0 0 0 []
    ∷ step 1 Solve 0 1 0 1 (0 ∷ [])
    ∷ step 1 Solve 1 0 0 2 (0 ∷ [])
    ∷ step 1 Left 1 1 0 3 (2 ∷ 1 ∷ [])
    ∷ step 1 Solve 1 1 0 3 []
    ∷ step 2 Pivots 0 0 0 10 (4 ∷ 7 ∷ [])
    ∷ step 2 Solve 0 0 0 8 (4 ∷ 10 ∷ [])
    ∷ step 2 Left 1 0 0 9 (6 ∷ 8 ∷ [])
    ∷ step 2 Solve 1 0 0 9 (7 ∷ 10 ∷ [])
    ∷ []

-- the same job, where the loop of the LU keeps the solves of its columns and not those of its rows
abbrev pub steps_by_columns : List Step
steps_by_columns = step 1 Solve 0 0 0 0 []
    ∷ step 1 Solve 1 0 0 2 (0 ∷ [])
    ∷ step 1 Solve 0 1 0 1 (0 ∷ [])
    ∷ step 1 Left 1 1 0 3 (2 ∷ 1 ∷ [])
    ∷ step 1 Solve 1 1 0 3 []
    ∷ step 2 Pivots 0 0 0 10 (4 ∷ 7 ∷ [])
    ∷ step 2 Solve 0 0 0 8 (4 ∷ 10 ∷ [])
    ∷ step 2 Left 1 0 0 9 (6 ∷ 8 ∷ [])
    ∷ step 2 Solve 1 0 0 9 (7 ∷ 10 ∷ [])
    ∷ []

abbrev solve : ℕ → ℕ → Task
solve i j = task_of Solve 0 i j 0

abbrev left : ℕ → ℕ → ℕ → Task
left i j k = task_of Left 0 i j k

-- LU by the loop that keeps the leading block alone: each iteration does what its block row and block column still lack
abbrev pub bordered_tasks : List Task
bordered_tasks = solve 0 0
    ∷ solve 0 1 ∷ solve 1 0 ∷ left 1 1 0 ∷ solve 1 1
    ∷ solve 0 2 ∷ left 1 2 0 ∷ solve 1 2 ∷ solve 2 0 ∷ left 2 1 0 ∷ solve 2 1 ∷ left 2 2 0 ∷ left 2 2 1 ∷ solve 2 2
    ∷ []

-- LU by the loop that keeps all updates by what is done: each iteration updates the whole trailing block
abbrev pub right_looking_tasks : List Task
right_looking_tasks = solve 0 0 ∷ solve 0 1 ∷ solve 0 2 ∷ solve 1 0 ∷ left 1 1 0 ∷ left 1 2 0 ∷ solve 2 0 ∷ left 2 1 0 ∷ left 2 2 0
    ∷ solve 1 1 ∷ solve 1 2 ∷ solve 2 1 ∷ left 2 2 1
    ∷ solve 2 2
    ∷ []

-- a lower triangular system with three columns of blocks, from the last one to the first
abbrev pub backward_tasks : List Task
backward_tasks = task_of Pivots 0 0 0 0 ∷ solve 0 2 ∷ solve 0 1 ∷ solve 0 0 ∷ []

-- the same along rows and columns, where the row is done after the first iteration
abbrev pub paired_tasks : List Task
paired_tasks = task_of Pivots 0 0 0 0 ∷ solve 0 0 ∷ solve 0 1 ∷ solve 0 2 ∷ []

-- the same of two rows and three columns of blocks, rows forward and columns backward at one time, where the corner that both have done is kept
abbrev pub corner_tasks : List Task
corner_tasks = task_of Pivots 0 0 0 0 ∷ solve 0 2
    ∷ solve 0 1 ∷ left 1 1 0 ∷ solve 1 1 ∷ left 1 2 0 ∷ solve 1 2
    ∷ solve 0 0 ∷ left 1 0 0 ∷ solve 1 0
    ∷ []
