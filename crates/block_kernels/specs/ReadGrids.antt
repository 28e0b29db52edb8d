-- Which stored blocks a task of a statement reads, over the blocks of the known matrices and those of W, in the order in which
-- what it leaves names them.
use Rattle.std.specs.Prelude.{ℕ, zero, suc, List, [], ◌∷◌, ◌==◌, min, ◌++◌, map, if◌then◌else◌}
use Rattle.residue_sums.specs.Sums.{part_count}
use Rattle.residue_sums.specs.Grids.{Grid}
use Rattle.structure_rules.specs.declared.Structure.{Structure}
use Rattle.structure_rules.specs.Structures.{stored_of}
use Rattle.operation_spec.specs.declared.operation.Operation.{Operation}
use Rattle.operation_spec.specs.declared.operation.Factor.{Factor}
use Rattle.operation_spec.specs.declared.operation.Term.{Term}
use Rattle.operation_spec.specs.declared.operation.Form.{Form}
use Rattle.operation_spec.specs.declared.operation.Form.TheVariants.{Assign, Left, Right, Sylvester, Lu, Ldl}
use Rattle.operation_spec.specs.declared.task.Kind.{Kind}
use Rattle.operation_spec.specs.declared.task.Kind.TheVariants as kinds
use Rattle.operation_spec.specs.declared.task.Task.{Task}
use Rattle.task_graph.specs.Factors.{known}
use Rattle.task_graph.specs.Order.{numbers_below}
use Rattle.flash_blocks.specs.Blocks.{Blocks}
use Rattle.block_tasks.specs.Inverses.{is_unit_triangle}

-- the block that block (i, k) of a view is read from: of a symmetric matrix above the diagonal it is the mirrored one
abbrev pub stored_grid : Structure → Blocks → ℕ → ℕ → Grid
stored_grid s blocks i k = blocks (stored_of s i k).row (stored_of s i k).col

-- the block that block (i, k) of op(F) is read from
abbrev pub factor_grid : Operation → (ℕ → Blocks) → Factor → ℕ → ℕ → Grid
factor_grid op knowns f i k = if f.primed then stored_grid (known op f.known).structure (knowns f.known) k i
    else stored_grid (known op f.known).structure (knowns f.known) i k

-- ---- updates of block (i, j), with the inner part k

abbrev pub term_grids : Operation → (ℕ → Blocks) → List Term → ℕ → ℕ → ℕ → ℕ → List Grid
term_grids op knowns [] t i j k = []
term_grids op knowns (term ∷ terms) zero i j k = factor_grid op knowns term.first i k ∷ factor_grid op knowns term.second k j ∷ []
term_grids op knowns (term ∷ terms) (suc t) i j k = term_grids op knowns terms t i j k

-- terms are numbered from 1
abbrev pub numbered_term_grids : Operation → (ℕ → Blocks) → ℕ → ℕ → ℕ → ℕ → List Grid
numbered_term_grids op knowns zero i j k = []
numbered_term_grids op knowns (suc t) i j k = term_grids op knowns op.terms t i j k

abbrev pub left_grids : Operation → (ℕ → Blocks) → Blocks → Form → ℕ → ℕ → ℕ → List Grid
left_grids op knowns work (Left t) i j k = factor_grid op knowns t i k ∷ work k j ∷ []
left_grids op knowns work (Sylvester t u negative) i j k = factor_grid op knowns t i k ∷ work k j ∷ []
left_grids op knowns work Lu i j k = work i k ∷ work k j ∷ []
left_grids op knowns work Ldl i j k = work i k ∷ work k k ∷ work j k ∷ []
left_grids op knowns work form i j k = []

abbrev pub right_grids : Operation → (ℕ → Blocks) → Blocks → Form → ℕ → ℕ → ℕ → List Grid
right_grids op knowns work (Right u) i j k = work i k ∷ factor_grid op knowns u k j ∷ []
right_grids op knowns work (Sylvester t u negative) i j k = work i k ∷ factor_grid op knowns u k j ∷ []
right_grids op knowns work form i j k = []

-- ---- solves of block (i, j)

-- the list of the inverses of its pivots, where it needs one
abbrev pub list_grids : Structure → Grid → List Grid
list_grids s list = if is_unit_triangle s then [] else list ∷ []

abbrev pub solve_grids : Operation → (ℕ → Blocks) → Blocks → Grid → Form → ℕ → ℕ → List Grid
solve_grids op knowns work list Assign i j = []
solve_grids op knowns work list (Left t) i j = factor_grid op knowns t i i ∷ list_grids (known op t.known).structure list
solve_grids op knowns work list (Right u) i j = factor_grid op knowns u j j ∷ list_grids (known op u.known).structure list
solve_grids op knowns work list (Sylvester t u negative) i j = factor_grid op knowns t i i ∷ factor_grid op knowns u j j ∷ list ∷ []
solve_grids op knowns work list Lu i j = if i == j then [] else work (min i j) (min i j) ∷ []
solve_grids op knowns work list Ldl i j = if i == j then [] else work (min i j) (min i j) ∷ []

-- ---- block tasks

-- what a task of a kind reads for block (i, j)
abbrev pub grids_by : Operation → (ℕ → Blocks) → Blocks → Grid → Kind → ℕ → ℕ → ℕ → ℕ → List Grid
grids_by op knowns work list kinds.Pivots t i j k = []
grids_by op knowns work list kinds.Term t i j k = numbered_term_grids op knowns t i j k
grids_by op knowns work list kinds.Left t i j k = left_grids op knowns work op.form i j k
grids_by op knowns work list kinds.Right t i j k = right_grids op knowns work op.form i j k
grids_by op knowns work list kinds.Solve t i j k = solve_grids op knowns work list op.form i j

-- the blocks that a block task reads; `list` is the statement's pivot list
abbrev pub blocks_read : Operation → (ℕ → Blocks) → Blocks → Grid → Task → List Grid
blocks_read op knowns work list task = grids_by op knowns work list task.kind task.term task.i task.j task.k

-- ---- the step that tests the pivots of a statement

-- the diagonal blocks of op(F), which has n rows
abbrev pub diagonal_grids : ℕ → Operation → (ℕ → Blocks) → Factor → ℕ → List Grid
diagonal_grids b op knowns f n = map (λ i. factor_grid op knowns f i i) (numbers_below (part_count n b))

-- those of a form's triangular factors, for W of so many rows and columns
abbrev pub pivot_grids : ℕ → Operation → (ℕ → Blocks) → ℕ → ℕ → Form → List Grid
pivot_grids b op knowns rows cols (Left t) = diagonal_grids b op knowns t rows
pivot_grids b op knowns rows cols (Right u) = diagonal_grids b op knowns u cols
pivot_grids b op knowns rows cols (Sylvester t u negative) = diagonal_grids b op knowns t rows ++ diagonal_grids b op knowns u cols
pivot_grids b op knowns rows cols form = []
