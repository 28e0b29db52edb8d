-- Which tasks a task needs, of those that its operation has under one cut.
use Rattle.std.specs.Prelude.{ℕ, Bool, true, false, ◌&&◌, ◌||◌, not, ◌==◌, min}
use Rattle.operation_spec.specs.declared.operation.Operation.{Operation}
use Rattle.operation_spec.specs.declared.operation.Form.{Form}
use Rattle.operation_spec.specs.declared.operation.Form.TheVariants.{Assign, Left, Right, Sylvester, Lu, Ldl}
use Rattle.operation_spec.specs.declared.task.Kind.{Kind}
use Rattle.operation_spec.specs.declared.task.Kind.TheVariants as kinds
use Rattle.operation_spec.specs.declared.task.Task.{Task}

abbrev pub is_solve : Kind → Bool
is_solve kinds.Solve = true
is_solve _ = false

-- b is the solve of block (i, j)
abbrev pub solves : Task → ℕ → ℕ → Bool
solves b i j = is_solve b.kind && b.i == i && b.j == j

-- b solves a block of W that the update Left (i, j, k) reads, by the form
abbrev pub left_needs : Form → ℕ → ℕ → ℕ → Task → Bool
left_needs Assign i j k b = false
left_needs (Left t) i j k b = solves b k j
left_needs (Right t) i j k b = false
left_needs (Sylvester t u minus) i j k b = solves b k j
left_needs Lu i j k b = solves b i k || solves b k j
left_needs Ldl i j k b = solves b i k || solves b k k || solves b j k

-- b solves a block of W that the update Right (i, j, k) reads, by the form
abbrev pub right_needs : Form → ℕ → ℕ → ℕ → Task → Bool
right_needs (Right t) i j k b = solves b i k
right_needs (Sylvester t u minus) i j k b = solves b i k
right_needs _ i j k b = false

-- the factorisations solve the diagonal block of a row or a column first
abbrev pub factors_diagonal : Form → Bool
factors_diagonal Lu = true
factors_diagonal Ldl = true
factors_diagonal _ = false

-- what the solve of block (i, j) needs: each other task of the block, and in Lu and Ldl off the diagonal the
-- solve of its diagonal block
abbrev pub solve_needs : Form → ℕ → ℕ → Task → Bool
solve_needs form i j b = (not (is_solve b.kind) && b.i == i && b.j == j)
    || (factors_diagonal form && not (i == j) && solves b (min i j) (min i j))

abbrev pub needs_by : Form → Kind → ℕ → ℕ → ℕ → Task → Bool
needs_by form kinds.Pivots i j k b = false
needs_by form kinds.Term i j k b = false
needs_by form kinds.Left i j k b = left_needs form i j k b
needs_by form kinds.Right i j k b = right_needs form i j k b
needs_by form kinds.Solve i j k b = solve_needs form i j b

-- task a needs task b
abbrev pub does_need : Operation → Task → Task → Bool
does_need op a b = needs_by op.form a.kind a.i a.j a.k b
