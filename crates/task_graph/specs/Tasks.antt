-- Which block tasks an operation has, where each dimension is cut into so many parts.
use Rattle.std.specs.Prelude.{ℕ, zero, suc, List, [], ◌∷◌, Bool, true, false, ◌&&◌, not, nat_lt, ◌==◌, min, slice_index}
use Rattle.structure_rules.specs.Structures.{is_zero}
use Rattle.operation_spec.specs.declared.operation.Operation.{Operation}
use Rattle.operation_spec.specs.declared.operation.Form.{Form}
use Rattle.operation_spec.specs.declared.operation.Form.TheVariants.{Assign, Left, Right, Sylvester, Lu, Ldl}
use Rattle.operation_spec.specs.declared.operation.Factor.{Factor}
use Rattle.operation_spec.specs.declared.operation.Term.{Term}
use Rattle.operation_spec.specs.declared.task.Kind.{Kind}
use Rattle.operation_spec.specs.declared.task.Kind.TheVariants as kinds
use Rattle.operation_spec.specs.declared.task.Task.{Task}
use Rattle.task_graph.specs.Factors.{factor_structure, factor_cols}

-- how many parts dimension d is cut into
abbrev pub parts_of : List ℕ → ℕ → ℕ
parts_of counts d = slice_index counts d

-- (i, j) is a block of W's structure
abbrev pub is_work_block : Operation → List ℕ → ℕ → ℕ → Bool
is_work_block op counts i j = nat_lt i (parts_of counts op.work.rows) && nat_lt j (parts_of counts op.work.cols) && not (is_zero op.work.structure i j)

-- block (i, j) of op(F) is no zero block
abbrev pub is_inside : Operation → Factor → ℕ → ℕ → Bool
is_inside op f i j = not (is_zero (factor_structure op f) i j)

-- the term multiplies op(F) at (i, k) by op(G) at (k, j), and neither is a zero block
abbrev pub has_product : Operation → List ℕ → Term → ℕ → ℕ → ℕ → Bool
has_product op counts term i j k = nat_lt k (parts_of counts (factor_cols op term.first)) && is_inside op term.first i k && is_inside op term.second k j

-- the same of the term at place t of a list
abbrev pub has_term : Operation → List ℕ → List Term → ℕ → ℕ → ℕ → ℕ → Bool
has_term op counts [] t i j k = false
has_term op counts (term ∷ terms) zero i j k = has_product op counts term i j k
has_term op counts (term ∷ terms) (suc t) i j k = has_term op counts terms t i j k

-- op(T) at (i, k) off its diagonal is no zero block, and neither is X at (k, j)
abbrev pub reads_left : Operation → List ℕ → Factor → ℕ → ℕ → ℕ → Bool
reads_left op counts t i j k = is_inside op t i k && not (i == k) && is_work_block op counts k j

-- X at (i, k) is no zero block, and neither is op(U) at (k, j) off its diagonal
abbrev pub reads_right : Operation → List ℕ → Factor → ℕ → ℕ → ℕ → Bool
reads_right op counts u i j k = is_inside op u k j && not (k == j) && is_work_block op counts i k

-- the update of block (i, j) by a product with a block on the left, by the form
abbrev pub has_left : Operation → List ℕ → Form → ℕ → ℕ → ℕ → Bool
has_left op counts Assign i j k = false
has_left op counts (Left t) i j k = reads_left op counts t i j k
has_left op counts (Right t) i j k = false
has_left op counts (Sylvester t u minus) i j k = reads_left op counts t i j k
has_left op counts Lu i j k = nat_lt k (min i j)
has_left op counts Ldl i j k = nat_lt k j

-- the update of block (i, j) by a product with a block on the right, by the form
abbrev pub has_right : Operation → List ℕ → Form → ℕ → ℕ → ℕ → Bool
has_right op counts Assign i j k = false
has_right op counts (Left t) i j k = false
has_right op counts (Right t) i j k = reads_right op counts t i j k
has_right op counts (Sylvester t u minus) i j k = reads_right op counts u i j k
has_right op counts Lu i j k = false
has_right op counts Ldl i j k = false

-- each form but Assign solves each block
abbrev pub has_solve : Form → Bool
has_solve Assign = false
has_solve _ = true

-- terms are numbered from 1
abbrev pub has_numbered_term : Operation → List ℕ → ℕ → ℕ → ℕ → ℕ → Bool
has_numbered_term op counts zero i j k = false
has_numbered_term op counts (suc t) i j k = has_term op counts op.terms t i j k

-- the block has a task of this kind; fields without a meaning are 0, and Pivots is no block task
abbrev pub has_task : Operation → List ℕ → Kind → ℕ → ℕ → ℕ → ℕ → Bool
has_task op counts kinds.Pivots t i j k = false
has_task op counts kinds.Term t i j k = has_numbered_term op counts t i j k
has_task op counts kinds.Left t i j k = t == 0 && has_left op counts op.form i j k
has_task op counts kinds.Right t i j k = t == 0 && has_right op counts op.form i j k
has_task op counts kinds.Solve t i j k = t == 0 && k == 0 && has_solve op.form

-- the operation has this task
abbrev pub has : Operation → List ℕ → Task → Bool
has op counts task = is_work_block op counts task.i task.j && has_task op counts task.kind task.term task.i task.j task.k
