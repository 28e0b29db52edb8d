-- The tasks of an operation part by part, in canonical order: those of an update, of a block, of a row of blocks.
use Rattle.std.specs.Prelude.{ℕ, zero, suc, ◌+◌, ◌-◌, List, [], ◌∷◌, ◌++◌, length, Bool, true, false, if◌then◌else◌, filter}
use Rattle.operation_spec.specs.declared.operation.Operation.{Operation}
use Rattle.operation_spec.specs.declared.operation.Form.{Form}
use Rattle.operation_spec.specs.declared.operation.Form.TheVariants.{Assign, Left, Right, Lu, Ldl}
use Rattle.operation_spec.specs.declared.task.Kind.{Kind}
use Rattle.operation_spec.specs.declared.task.Kind.TheVariants as kinds
use Rattle.operation_spec.specs.declared.task.Task.{Task}
use Rattle.task_graph.specs.Tasks.{parts_of, has}
use Rattle.task_graph.specs.Order.{rows_descend, cols_descend, task_of}
use Rattle.task_graph.specs.Classes.{inner_dim}

-- f 0, f 1, .., f (n - 1), one behind the other
unfoldable pub joined : (ℕ → List Task) → ℕ → List Task
joined f zero = []
joined f (suc n) = joined f n ++ f n

-- the number at place s of 0, 1, .., n - 1 in a direction
abbrev pub number_at : Bool → ℕ → ℕ → ℕ
number_at descend n s = if descend then n - 1 - s else s

-- the task where the operation has it
unfoldable pub task_if_any : Operation → List ℕ → Task → List Task
task_if_any op counts task = filter (has op counts) (task ∷ [])

-- the tasks of this kind and term of block (i, j) with an inner part below n
unfoldable pub updates_of : Operation → List ℕ → Kind → ℕ → ℕ → ℕ → ℕ → List Task
updates_of op counts kind t i j n = joined (λ k. task_if_any op counts (task_of kind t i j k)) n

-- whether a form can have tasks of this kind
abbrev pub may_have : Kind → Form → Bool
may_have kinds.Left Assign = false
may_have kinds.Left (Right t) = false
may_have kinds.Right Assign = false
may_have kinds.Right (Left t) = false
may_have kinds.Right Lu = false
may_have kinds.Right Ldl = false
may_have _ _ = true

-- how many inner parts tasks of this kind and term may have
abbrev pub inner_count : Operation → List ℕ → Kind → ℕ → ℕ
inner_count op counts kind t = if may_have kind op.form then parts_of counts (inner_dim op kind t) else 0

-- the products of the first n terms in block (i, j)
unfoldable pub products_of : Operation → List ℕ → ℕ → ℕ → ℕ → List Task
products_of op counts i j n = joined (λ t. updates_of op counts kinds.Term (t + 1) i j (inner_count op counts kinds.Term (t + 1))) n

-- the tasks of block (i, j)
unfoldable pub block_of : Operation → List ℕ → ℕ → ℕ → List Task
block_of op counts i j = products_of op counts i j (length op.terms)
    ++ updates_of op counts kinds.Left 0 i j (inner_count op counts kinds.Left 0)
    ++ updates_of op counts kinds.Right 0 i j (inner_count op counts kinds.Right 0)
    ++ task_if_any op counts (task_of kinds.Solve 0 i j 0)

-- the tasks of the first n blocks in row i
unfoldable pub blocks_of : Operation → List ℕ → ℕ → ℕ → List Task
blocks_of op counts i n = joined (λ s. block_of op counts i (number_at (cols_descend op) (parts_of counts op.work.cols) s)) n

-- the tasks of the first n rows of blocks
unfoldable pub rows_of : Operation → List ℕ → ℕ → List Task
rows_of op counts n = joined (λ s. blocks_of op counts (number_at (rows_descend op) (parts_of counts op.work.rows) s) (parts_of counts op.work.cols)) n
