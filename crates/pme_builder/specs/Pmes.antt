-- Partitioned matrix expressions: an expression for each block of W's structure, the block tasks, and which needs which.
use Rattle.std.specs.Prelude.{◌≡◌, ℕ, ◌+◌, List, [], ◌∷◌, ◌++◌, Bool, ◌&&◌, ◌==◌, if◌then◌else◌, map, filter}
use Rattle.operation_spec.specs.declared.operation.Operation.{Operation}
use Rattle.operation_spec.specs.declared.split.Split.{Split}
use Rattle.operation_spec.specs.declared.task.Task.{Task}
use Rattle.equation.specs.declared.job.Place.{Place}
use Rattle.task_graph.specs.Needs.{does_need}
use Rattle.task_graph.specs.Order.{tasks_of}
use Rattle.invariant_family.specs.Splits.{two_parts}
use Rattle.block_values.specs.Trees.{Tree}
use Rattle.block_values.specs.States.{full_tree, state_tree}
use Rattle.block_values.specs.Orders.{in_order}
use Rattle.block_expr.specs.Places.{work_places}
use Rattle.block_expr.specs.Seen.{tree_of}
use Rattle.pme_builder.specs.declared.pme.Pme.{Pme}
use Rattle.pme_builder.specs.declared.pme.Pair.{Pair}

-- ---- blocks

-- the expression of each block of W's structure with all its tasks done, row by row
abbrev pub block_trees : Operation → List ℕ → List Tree
block_trees op counts = map (λ (at : Place). full_tree op counts at.row at.col) (work_places op counts)

-- ---- needs, by the numbers of the tasks, from 1

-- the pairs of task t with those tasks of a list, numbered from n on, that it needs
abbrev pub pairs_from : Operation → Task → ℕ → ℕ → List Task → List Pair
pairs_from op a t n [] = []
pairs_from op a t n (b ∷ tasks) = (if does_need op a b then record { task = t; need = n } ∷ [] else []) ++ pairs_from op a t (n + 1) tasks

-- those of the tasks of a list, numbered from t on, with all tasks
abbrev pub edges_from : Operation → List Task → ℕ → List Task → List Pair
edges_from op all t [] = []
edges_from op all t (a ∷ tasks) = pairs_from op a t 1 all ++ edges_from op all (t + 1) tasks

-- each pair of tasks of which the first needs the second, by the first and then the second
abbrev pub edges_of : Operation → List Task → List Pair
edges_of op tasks = edges_from op tasks 1 tasks

-- ---- the whole

-- p is the partitioned matrix expression of an operation for a split
pub record IsPme (op : Operation) (split : Split) (p : Pme) : Type 0 where
  pub blocks : map tree_of p.blocks ≡ block_trees op (two_parts op split)
  pub tasks : p.tasks ≡ tasks_of op (two_parts op split)
  pub edges : p.edges ≡ edges_of op (tasks_of op (two_parts op split))

-- ---- as they are found

-- the task is one of block (i, j)
abbrev pub is_at : ℕ → ℕ → Task → Bool
is_at i j a = a.i == i && a.j == j

-- the state of a block with those tasks of a list done that are its own
abbrev pub state_at : Operation → List Task → Place → Tree
state_at op tasks at = state_tree op at.row at.col (in_order op (filter (is_at at.row at.col) tasks))
