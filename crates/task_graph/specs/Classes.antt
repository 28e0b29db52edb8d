-- Classes: the task of a coarser cut that a task is part of.
use Rattle.std.specs.Prelude.{ℕ, zero, suc, List, [], ◌∷◌, nat_lt, if◌then◌else◌, map, slice_index_or}
use Rattle.operation_spec.specs.declared.operation.Operation.{Operation}
use Rattle.operation_spec.specs.declared.operation.Term.{Term}
use Rattle.operation_spec.specs.declared.task.Kind.{Kind}
use Rattle.operation_spec.specs.declared.task.Kind.TheVariants as kinds
use Rattle.operation_spec.specs.declared.task.Task.{Task}
use Rattle.task_graph.specs.declared.cut.Sides.{Sides}
use Rattle.task_graph.specs.declared.cut.Sides.TheVariants.{One, Two}
use Rattle.task_graph.specs.Factors.{factor_cols}
use Rattle.task_graph.specs.Tasks.{has}
use Rattle.task_graph.specs.Order.{task_of}

-- the column dimension of the first factor of the term at place t of a list
abbrev pub inner_dim_of : Operation → List Term → ℕ → ℕ
inner_dim_of op [] t = 0
inner_dim_of op (term ∷ terms) zero = factor_cols op term.first
inner_dim_of op (term ∷ terms) (suc t) = inner_dim_of op terms t

abbrev pub inner_dim_of_term : Operation → ℕ → ℕ
inner_dim_of_term op zero = 0
inner_dim_of_term op (suc t) = inner_dim_of op op.terms t

-- the dimension of a task's inner part: that of the term's product, or W's row dimension on the left and its
-- column dimension on the right
abbrev pub inner_dim : Operation → Kind → ℕ → ℕ
inner_dim op kinds.Pivots t = 0
inner_dim op kinds.Term t = inner_dim_of_term op t
inner_dim op kinds.Left t = op.work.rows
inner_dim op kinds.Right t = op.work.cols
inner_dim op kinds.Solve t = 0

-- the part of the coarser cut that an index goes to
abbrev pub side_of : Sides → ℕ → ℕ
side_of One x = 0
side_of (Two edge) x = if nat_lt x edge then 0 else 1

abbrev pub part_in : List Sides → ℕ → ℕ → ℕ
part_in cut d x = side_of (slice_index_or cut d One) x

-- how many parts the coarser cut has in a dimension
abbrev pub sides_count : Sides → ℕ
sides_count One = 1
sides_count (Two edge) = 2

abbrev pub counts_of : List Sides → List ℕ
counts_of cut = map sides_count cut

-- the task of the same kind with each index in its coarse part
abbrev pub coarse_of : Operation → List Sides → Task → Task
coarse_of op cut task = task_of task.kind task.term (part_in cut op.work.rows task.i) (part_in cut op.work.cols task.j) (part_in cut (inner_dim op task.kind task.term) task.k)

-- that task where the coarser cut has it, and else the solve of its block
abbrev pub class_of : Operation → List Sides → Task → Task
class_of op cut task =
    let coarse = coarse_of op cut task in
    if has op (counts_of cut) coarse then coarse else task_of kinds.Solve 0 coarse.i coarse.j 0
