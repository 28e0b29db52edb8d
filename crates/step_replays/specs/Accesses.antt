-- The numbers of blocks, and which blocks each step writes and reads.
use Rattle.std.specs.Prelude.{◌≡◌, ℕ, zero, suc, ◌+◌, ◌-◌, ◌*◌, ◌/◌, ◌%◌, List, [], ◌∷◌, ◌++◌, length, map, take, Bool, true, false, ◌==◌, not, nat_lt, if◌then◌else◌, min, slice_index, slice_index_or}
use Rattle.residue_sums.specs.Sums.{part_count}
use Rattle.residue_sums.specs.Grids.{Grid}
use Rattle.structure_rules.specs.declared.Structure.TheVariants as structures
use Rattle.structure_rules.specs.Structures.{stored_of}
use Rattle.operation_spec.specs.declared.operation.Operation.{Operation}
use Rattle.operation_spec.specs.declared.operation.Factor.{Factor}
use Rattle.operation_spec.specs.declared.operation.Term.{Term}
use Rattle.operation_spec.specs.declared.operation.Binding.{Binding}
use Rattle.operation_spec.specs.declared.operation.Form.{Form}
use Rattle.operation_spec.specs.declared.operation.Form.TheVariants.{Assign, Left, Right, Sylvester, Lu, Ldl}
use Rattle.operation_spec.specs.declared.task.Kind.{Kind}
use Rattle.operation_spec.specs.declared.task.Kind.TheVariants as kinds
use Rattle.operation_spec.specs.declared.task.Task.{Task}
use Rattle.task_graph.specs.Factors.{known}
use Rattle.task_graph.specs.Order.{numbers_below}
use Rattle.equation.specs.declared.job.Job.{Job}
use Rattle.equation.specs.declared.job.Statement.{Statement}
use Rattle.equation.specs.Jobs.{nth_grid, no_grid}
use Rattle.dependence_queue.specs.declared.access.Access.{Access}
use Rattle.flash_blocks.specs.Blocks.{block_of, grid_of}
use Rattle.block_tasks.specs.Inverses.{is_unit_triangle}

-- ---- numbers: matrix by matrix, row by row, and then the pivot lists by statement

-- how many blocks matrices have
abbrev pub blocks_in : ℕ → List Grid → ℕ
blocks_in b [] = 0
blocks_in b (g ∷ grids) = part_count g.rows b * part_count g.cols b + blocks_in b grids

-- the number of block (i, j) of matrix k
abbrev pub block_number : ℕ → List Grid → ℕ → ℕ → ℕ → ℕ
block_number b grids k i j = blocks_in b (take k grids) + (i * part_count (nth_grid grids k).cols b + j)

-- the block with a number
abbrev pub numbered_block : ℕ → List Grid → ℕ → Grid
numbered_block b [] x = no_grid
numbered_block b (g ∷ grids) x = if nat_lt x (part_count g.rows b * part_count g.cols b) then block_of b g (x / part_count g.cols b) (x % part_count g.cols b)
    else numbered_block b grids (x - part_count g.rows b * part_count g.cols b)

-- the form tests its pivots in a step of its own
abbrev pub has_pivots_by : Operation → Form → Bool
has_pivots_by op (Left t) = not (is_unit_triangle (known op t.known).structure)
has_pivots_by op (Right u) = not (is_unit_triangle (known op u.known).structure)
has_pivots_by op (Sylvester t u minus) = true
has_pivots_by op form = false

abbrev pub has_pivots : Operation → Bool
has_pivots op = has_pivots_by op op.form

abbrev pub no_operation : Operation
no_operation = record {
  name = [];
  dims = [];
  work = record { name = []; structure = structures.General; rows = 0; cols = 0 };
  knowns = [];
  form = Assign;
  terms = [];
}

abbrev pub operation_of : Job → Statement → Operation
operation_of job s = slice_index_or job.operations s.operation no_operation

-- how many of these statements have a pivot list
abbrev pub lists_of : Job → List Statement → ℕ
lists_of job [] = 0
lists_of job (s ∷ statements) = (if has_pivots (operation_of job s) then 1 else 0) + lists_of job statements

-- the number of the pivot list of a statement, numbered from 1
abbrev pub pivot_number : Job → ℕ → ℕ → ℕ
pivot_number job b s = blocks_in b job.matrices + lists_of job (take (s - 1) job.statements)

-- the pivot list of a form, for a work matrix, all zero
abbrev pub zero_list_by : Form → Grid → Grid
zero_list_by (Left t) work = grid_of (λ r c. 0) 1 work.rows
zero_list_by (Right u) work = grid_of (λ r c. 0) 1 work.cols
zero_list_by (Sylvester t u minus) work = grid_of (λ r c. 0) work.rows work.cols
zero_list_by form work = no_grid

abbrev pub numbered_list : Job → List Statement → ℕ → Grid
numbered_list job [] x = no_grid
numbered_list job (s ∷ statements) x = if has_pivots (operation_of job s)
    then (if x == 0 then zero_list_by (operation_of job s).form (nth_grid job.matrices s.bind.work) else numbered_list job statements (x - 1))
    else numbered_list job statements x

-- block x as the job gives it
abbrev pub first_block : Job → ℕ → ℕ → Grid
first_block job b x = if nat_lt x (blocks_in b job.matrices) then numbered_block b job.matrices x else numbered_list job job.statements (x - blocks_in b job.matrices)

-- ---- accesses

-- the number of block (i, k) of op(F) as it is stored
abbrev pub factor_number : ℕ → List Grid → Operation → Binding → Factor → ℕ → ℕ → ℕ
factor_number b grids op bind f i k =
    let place = (if f.primed then stored_of (known op f.known).structure k i else stored_of (known op f.known).structure i k) in
    block_number b grids (slice_index bind.knowns f.known) place.row place.col

abbrev pub work_number : ℕ → List Grid → Binding → ℕ → ℕ → ℕ
work_number b grids bind i j = block_number b grids bind.work i j

abbrev pub term_reads : ℕ → List Grid → Operation → Binding → List Term → ℕ → ℕ → ℕ → ℕ → List ℕ
term_reads b grids op bind [] t i j k = []
term_reads b grids op bind (term ∷ terms) zero i j k = factor_number b grids op bind term.first i k ∷ factor_number b grids op bind term.second k j ∷ []
term_reads b grids op bind (term ∷ terms) (suc t) i j k = term_reads b grids op bind terms t i j k

abbrev pub numbered_term_reads : ℕ → List Grid → Operation → Binding → ℕ → ℕ → ℕ → ℕ → List ℕ
numbered_term_reads b grids op bind zero i j k = []
numbered_term_reads b grids op bind (suc t) i j k = term_reads b grids op bind op.terms t i j k

abbrev pub left_reads : ℕ → List Grid → Operation → Binding → Form → ℕ → ℕ → ℕ → List ℕ
left_reads b grids op bind (Left t) i j k = factor_number b grids op bind t i k ∷ work_number b grids bind k j ∷ []
left_reads b grids op bind (Sylvester t u minus) i j k = factor_number b grids op bind t i k ∷ work_number b grids bind k j ∷ []
left_reads b grids op bind Lu i j k = work_number b grids bind i k ∷ work_number b grids bind k j ∷ []
left_reads b grids op bind Ldl i j k = work_number b grids bind i k ∷ work_number b grids bind k k ∷ work_number b grids bind j k ∷ []
left_reads b grids op bind form i j k = []

abbrev pub right_reads : ℕ → List Grid → Operation → Binding → Form → ℕ → ℕ → ℕ → List ℕ
right_reads b grids op bind (Right u) i j k = work_number b grids bind i k ∷ factor_number b grids op bind u k j ∷ []
right_reads b grids op bind (Sylvester t u minus) i j k = work_number b grids bind i k ∷ factor_number b grids op bind u k j ∷ []
right_reads b grids op bind form i j k = []

-- the pivot list where there is one
abbrev pub list_reads : Operation → ℕ → List ℕ
list_reads op x = if has_pivots op then x ∷ [] else []

abbrev pub solve_reads : ℕ → List Grid → Operation → Binding → ℕ → Form → ℕ → ℕ → List ℕ
solve_reads b grids op bind x (Left t) i j = factor_number b grids op bind t i i ∷ list_reads op x
solve_reads b grids op bind x (Right u) i j = factor_number b grids op bind u j j ∷ list_reads op x
solve_reads b grids op bind x (Sylvester t u minus) i j = factor_number b grids op bind t i i ∷ factor_number b grids op bind u j j ∷ list_reads op x
solve_reads b grids op bind x Lu i j = if i == j then [] else work_number b grids bind (min i j) (min i j) ∷ []
solve_reads b grids op bind x Ldl i j = if i == j then [] else work_number b grids bind (min i j) (min i j) ∷ []
solve_reads b grids op bind x Assign i j = []

-- the diagonal blocks of T, and of U
abbrev pub diagonal_reads : ℕ → List Grid → Operation → Binding → Factor → ℕ → List ℕ
diagonal_reads b grids op bind f n = map (λ i. factor_number b grids op bind f i i) (numbers_below (part_count n b))

abbrev pub pivot_reads : ℕ → List Grid → Operation → Binding → Form → List ℕ
pivot_reads b grids op bind (Left t) = diagonal_reads b grids op bind t (nth_grid grids bind.work).rows
pivot_reads b grids op bind (Right u) = diagonal_reads b grids op bind u (nth_grid grids bind.work).cols
pivot_reads b grids op bind (Sylvester t u minus) =
    diagonal_reads b grids op bind t (nth_grid grids bind.work).rows ++ diagonal_reads b grids op bind u (nth_grid grids bind.work).cols
pivot_reads b grids op bind form = []

abbrev pub reads_of : ℕ → List Grid → Operation → Binding → ℕ → Kind → ℕ → ℕ → ℕ → ℕ → List ℕ
reads_of b grids op bind x kinds.Pivots t i j k = pivot_reads b grids op bind op.form
reads_of b grids op bind x kinds.Term t i j k = numbered_term_reads b grids op bind t i j k
reads_of b grids op bind x kinds.Left t i j k = left_reads b grids op bind op.form i j k
reads_of b grids op bind x kinds.Right t i j k = right_reads b grids op bind op.form i j k
reads_of b grids op bind x kinds.Solve t i j k = solve_reads b grids op bind x op.form i j

abbrev pub write_of : ℕ → List Grid → Binding → ℕ → Kind → ℕ → ℕ → ℕ
write_of b grids bind x kinds.Pivots i j = x
write_of b grids bind x kind i j = work_number b grids bind i j

abbrev pub no_statement : Statement
no_statement = record { operation = 0; bind = record { work = 0; knowns = [] } }

-- statements are numbered from 1
abbrev pub statement_of : Job → ℕ → Statement
statement_of job s = slice_index_or job.statements (s - 1) no_statement

-- the accesses of a task of a statement
abbrev pub access_of : Job → ℕ → ℕ → Task → Access
access_of job b s task = record {
  write = write_of b job.matrices (statement_of job s).bind (pivot_number job b s) task.kind task.i task.j;
  reads = reads_of b job.matrices (operation_of job (statement_of job s)) (statement_of job s).bind (pivot_number job b s) task.kind task.term task.i task.j task.k;
}
