-- The state of a block of W with a list of done tasks, as an expression.
use Rattle.std.specs.Prelude.{ℕ, zero, suc, List, [], ◌∷◌, Bool, true, false, nat_lt, ◌==◌, if◌then◌else◌, ◌||◌}
use Rattle.operation_spec.specs.declared.operation.Operation.{Operation}
use Rattle.operation_spec.specs.declared.operation.Factor.{Factor}
use Rattle.operation_spec.specs.declared.operation.Term.{Term}
use Rattle.operation_spec.specs.declared.operation.Form.{Form}
use Rattle.operation_spec.specs.declared.operation.Form.TheVariants as forms
use Rattle.operation_spec.specs.declared.task.Kind.{Kind}
use Rattle.operation_spec.specs.declared.task.Kind.TheVariants as kinds
use Rattle.operation_spec.specs.declared.task.Task.{Task}
use Rattle.task_graph.specs.Needs.{is_solve}
use Rattle.task_graph.specs.Listing.{block_of}
use Rattle.block_values.specs.declared.leaf.Leaf.TheVariants.{Work, Known, Solution, L, D, U}
use Rattle.block_values.specs.Trees.{Tree, Zero, Block, Add, Sub, Mul, SolveLeft, SolveRight, Sylvester, Lu, Ldl}

-- block (i, j) of op(F)
abbrev pub factor_block : Factor → ℕ → ℕ → Tree
factor_block f i j = Block (Known f.known) f.primed i j

-- the product of a term at (i, j) over part k
abbrev pub term_product : List Term → ℕ → ℕ → ℕ → ℕ → Tree
term_product [] t i j k = Zero
term_product (term ∷ terms) zero i j k = Mul (factor_block term.first i k) (factor_block term.second k j)
term_product (term ∷ terms) (suc t) i j k = term_product terms t i j k

-- whether it is subtracted
abbrev pub term_minus : List Term → ℕ → Bool
term_minus [] t = false
term_minus (term ∷ terms) zero = term.minus
term_minus (term ∷ terms) (suc t) = term_minus terms t

-- the same of the term with a number, from 1
abbrev pub numbered_product : Operation → ℕ → ℕ → ℕ → ℕ → Tree
numbered_product op zero i j k = Zero
numbered_product op (suc t) i j k = term_product op.terms t i j k

abbrev pub numbered_minus : Operation → ℕ → Bool
numbered_minus op zero = false
numbered_minus op (suc t) = term_minus op.terms t

-- the product of an update on the left, and of one on the right
abbrev pub left_product : Form → ℕ → ℕ → ℕ → Tree
left_product (forms.Left t) i j k = Mul (factor_block t i k) (Block Solution false k j)
left_product (forms.Sylvester t u negative) i j k = Mul (factor_block t i k) (Block Solution false k j)
left_product forms.Lu i j k = Mul (Block L false i k) (Block U false k j)
left_product forms.Ldl i j k = Mul (Mul (Block L false i k) (Block D false k k)) (Block L true k j)
left_product _ i j k = Zero

abbrev pub right_product : Form → ℕ → ℕ → ℕ → Tree
right_product (forms.Right t) i j k = Mul (Block Solution false i k) (factor_block t k j)
right_product (forms.Sylvester t u negative) i j k = Mul (Block Solution false i k) (factor_block u k j)
right_product _ i j k = Zero

-- in the form with `-` the updates on the right are added
abbrev pub right_minus : Form → Bool
right_minus (forms.Sylvester t u negative) = if negative then false else true
right_minus _ = true

-- the product of an update
abbrev pub task_product : Operation → Kind → ℕ → ℕ → ℕ → ℕ → Tree
task_product op kinds.Pivots t i j k = Zero
task_product op kinds.Term t i j k = numbered_product op t i j k
task_product op kinds.Left t i j k = left_product op.form i j k
task_product op kinds.Right t i j k = right_product op.form i j k
task_product op kinds.Solve t i j k = Zero

abbrev pub task_minus : Operation → Kind → ℕ → Bool
task_minus op kinds.Term t = numbered_minus op t
task_minus op kinds.Left t = true
task_minus op kinds.Right t = right_minus op.form
task_minus op _ t = false

-- a sum with the product of a task, if it is an update, added or subtracted
abbrev pub with_update : Operation → Task → Tree → Tree
with_update op a sum = if is_solve a.kind then sum
    else (if task_minus op a.kind a.term then Sub sum (task_product op a.kind a.term a.i a.j a.k) else Add sum (task_product op a.kind a.term a.i a.j a.k))

-- the sum so far with the products of the tasks
abbrev pub with_updates : Operation → List Task → Tree → Tree
with_updates op [] sum = sum
with_updates op (a ∷ tasks) sum = with_updates op tasks (with_update op a sum)

abbrev pub has_solved : List Task → Bool
has_solved [] = false
has_solved (a ∷ tasks) = is_solve a.kind || has_solved tasks

-- the sum, solved
abbrev pub solved : Form → ℕ → ℕ → Tree → Tree
solved forms.Assign i j sum = sum
solved (forms.Left t) i j sum = SolveLeft (factor_block t i i) sum
solved (forms.Right t) i j sum = SolveRight sum (factor_block t j j)
solved (forms.Sylvester t u negative) i j sum = Sylvester (factor_block t i i) (factor_block u j j) negative sum
solved forms.Lu i j sum = if i == j then Lu sum
    else (if nat_lt i j then SolveLeft (Block L false i i) sum else SolveRight sum (Block U false j j))
solved forms.Ldl i j sum = if i == j then Ldl sum else SolveRight sum (Mul (Block D false j j) (Block L true j j))

-- the state of block (i, j) with the tasks done that are listed
abbrev pub state_tree : Operation → ℕ → ℕ → List Task → Tree
state_tree op i j done =
    let sum = with_updates op done (Block Work false i j) in
    if has_solved done then solved op.form i j sum else sum

-- with all its tasks done
abbrev pub full_tree : Operation → List ℕ → ℕ → ℕ → Tree
full_tree op counts i j = state_tree op i j (block_of op counts i j)
