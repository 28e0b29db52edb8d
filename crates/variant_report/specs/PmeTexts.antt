-- A partitioned matrix expression as text: the operation and the split, a line for each block, the number of tasks, and a line for
-- each task with the numbers of those that it needs.
use Rattle.std.specs.Prelude.{ℕ, ◌+◌, List, [], ◌∷◌, ◌++◌, length, map, filter, codes, decimal, Option, Some, None, ◌==◌}
use Rattle.std.specs.List.{flat_map}
use Rattle.operation_spec.specs.declared.operation.Operation.{Operation}
use Rattle.operation_spec.specs.declared.split.Split.{Split}
use Rattle.operation_spec.specs.declared.task.Task.{Task}
use Rattle.equation.specs.declared.job.Place.{Place}
use Rattle.task_graph.specs.Order.{tasks_of}
use Rattle.invariant_family.specs.Splits.{two_parts}
use Rattle.block_values.specs.Trees.{Tree}
use Rattle.block_expr.specs.Places.{work_places}
use Rattle.block_expr.specs.Texts.{place_text, tree_text}
use Rattle.pme_builder.specs.declared.pme.Pair.{Pair}
use Rattle.pme_builder.specs.Pmes.{block_trees, edges_of}
use Rattle.task_texts.specs.DimTexts.{dim_name}
use Rattle.variant_report.specs.NumberLines.{number_line}
use Rattle.task_texts.specs.TaskTexts.{task_text}

-- ---- the first line

abbrev pub second_name : Operation → Option ℕ → List ℕ
second_name op None = []
second_name op (Some d) = codes " " ++ dim_name op d

abbrev pub head_line : Operation → Split → List ℕ
head_line op split = codes "pme " ++ op.name ++ codes " split " ++ dim_name op split.first ++ second_name op split.second ++ codes "\n"

-- ---- blocks

abbrev pub block_line : Operation → Place → Tree → List ℕ
block_line op at e = codes "X" ++ place_text at.row at.col ++ codes " = " ++ tree_text op e ++ codes "\n"

-- the expressions of blocks, each under its place
abbrev pub block_lines : Operation → List Place → List Tree → List ℕ
block_lines op (at ∷ places) (e ∷ trees) = block_line op at e ++ block_lines op places trees
block_lines op _ _ = []

-- ---- tasks

-- the numbers of the tasks that task t needs
abbrev pub needs_of : ℕ → List Pair → List ℕ
needs_of t edges = map (λ (pair : Pair). pair.need) (filter (λ (pair : Pair). pair.task == t) edges)

-- each number behind a space
abbrev pub numbers_text : List ℕ → List ℕ
numbers_text = flat_map (λ n. codes " " ++ decimal n)

-- the tasks that a task needs, if there are any
abbrev pub needs_text : List ℕ → List ℕ
needs_text [] = []
needs_text (need ∷ needs) = codes " needs" ++ numbers_text (need ∷ needs)

-- the number of the task, its text, and the numbers of those that it needs
abbrev pub task_line : ℕ → Task → List Pair → List ℕ
task_line t task edges = decimal t ++ codes " " ++ task_text task ++ needs_text (needs_of t edges) ++ codes "\n"

-- the lines of tasks that are numbered from t on
abbrev pub task_lines : ℕ → List Task → List Pair → List ℕ
task_lines t [] edges = []
task_lines t (task ∷ tasks) edges = task_line t task edges ++ task_lines (t + 1) tasks edges

-- ---- the whole

abbrev pub pme_lines : Operation → Split → List Place → List Tree → List Task → List Pair → List ℕ
pme_lines op split places trees tasks edges = head_line op split ++ block_lines op places trees ++ number_line (codes "tasks") (length tasks)
    ++ task_lines 1 tasks edges ++ codes "end\n"

-- that of an operation, with two parts in each dimension of the split
abbrev pub pme_text : Operation → Split → List ℕ
pme_text op split = let counts = two_parts op split in
    pme_lines op split (work_places op counts) (block_trees op counts) (tasks_of op counts) (edges_of op (tasks_of op counts))
