-- The blocks of W that an update reads: those of X, or of its factors, in the product that it adds or subtracts.
use Rattle.std.specs.Prelude.{◌≡◌, ◌≢◌, ◌⊎◌, ℕ, List, [], ◌∷◌, min}
use Rattle.operation_spec.specs.declared.operation.Operation.{Operation}
use Rattle.operation_spec.specs.declared.operation.Form.{Form}
use Rattle.operation_spec.specs.declared.operation.Form.TheVariants.{Left, Right, Sylvester, Lu, Ldl}
use Rattle.operation_spec.specs.declared.task.Kind.{Kind}
use Rattle.operation_spec.specs.declared.task.Kind.TheVariants as kinds
use Rattle.operation_spec.specs.declared.task.Task.{Task}
use Rattle.task_graph.specs.Order.{task_of}

-- a block of W
pub record Block : Type 0 where
  pub row : ℕ
  pub col : ℕ

abbrev pub block : ℕ → ℕ → Block
block row col = record { row = row; col = col }

-- op(T) at (i, k) times X at (k, j); in Lu, L at (i, k) times U at (k, j); in Ldl, L at (i, k) times D at (k, k)
-- times the transpose of L at (j, k)
abbrev pub left_reads : Form → ℕ → ℕ → ℕ → List Block
left_reads (Left t) i j k = block k j ∷ []
left_reads (Sylvester t u minus) i j k = block k j ∷ []
left_reads Lu i j k = block i k ∷ block k j ∷ []
left_reads Ldl i j k = block i k ∷ block k k ∷ block j k ∷ []
left_reads _ i j k = []

-- X at (i, k) times op(U) at (k, j)
abbrev pub right_reads : Form → ℕ → ℕ → ℕ → List Block
right_reads (Right t) i j k = block i k ∷ []
right_reads (Sylvester t u minus) i j k = block i k ∷ []
right_reads _ i j k = []

abbrev pub reads_by : Form → Kind → ℕ → ℕ → ℕ → List Block
reads_by form kinds.Left i j k = left_reads form i j k
reads_by form kinds.Right i j k = right_reads form i j k
reads_by form _ i j k = []

-- what an update reads of W
abbrev pub blocks_read : Operation → Task → List Block
blocks_read op a = reads_by op.form a.kind a.i a.j a.k

-- the task that solves a block
abbrev pub solve_of : Block → Task
solve_of b = task_of kinds.Solve 0 b.row b.col 0

-- b is another task of a's block
pub record IsOtherOfBlock (a b : Task) : Type 0 where
  pub row : b.i ≡ a.i
  pub col : b.j ≡ a.j
  pub other : b ≢ a

-- a factorisation solves a's block, off the diagonal, by the diagonal block that b solves: (d, d), with d the lesser
-- of a's row and column
pub record IsDiagonalSolve (form : Form) (a b : Task) : Type 0 where
  pub factorisation : (form ≡ Lu) ⊎ (form ≡ Ldl)
  pub off : a.i ≢ a.j
  pub diagonal : b ≡ solve_of (block (min a.i a.j) (min a.i a.j))
