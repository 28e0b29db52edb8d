-- The canonical order of an operation's tasks: blocks row by row, each in the direction in which its rows and
-- columns can be solved, and within a block the terms, the updates on the left, those on the right, and the
-- solve.
use Rattle.std.specs.Prelude.{ℕ, zero, suc, ◌+◌, List, [], ◌∷◌, ◌++◌, Bool, true, false, ◌&&◌, ◌||◌, nat_lt, ◌==◌, if◌then◌else◌, map, filter, reverse}
use Rattle.std.specs.List.{flat_map}
use Rattle.structure_rules.specs.declared.Structure.{Structure}
use Rattle.structure_rules.specs.declared.Structure.TheVariants.{Lower, UnitLower, Upper, UnitUpper}
use Rattle.operation_spec.specs.declared.operation.Operation.{Operation}
use Rattle.operation_spec.specs.declared.operation.Form.{Form}
use Rattle.operation_spec.specs.declared.operation.Form.TheVariants.{Left, Right, Sylvester}
use Rattle.operation_spec.specs.declared.operation.Term.{Term}
use Rattle.operation_spec.specs.declared.task.Kind.{Kind}
use Rattle.operation_spec.specs.declared.task.Kind.TheVariants as kinds
use Rattle.operation_spec.specs.declared.task.Task.{Task}
use Rattle.task_graph.specs.Factors.{factor_structure, factor_cols}
use Rattle.task_graph.specs.Tasks.{parts_of, has}

-- upper triangular factors are solved from the last row up
abbrev pub is_upper : Structure → Bool
is_upper Upper = true
is_upper UnitUpper = true
is_upper _ = false

-- and, on the right, lower ones from the last column
abbrev pub is_lower : Structure → Bool
is_lower Lower = true
is_lower UnitLower = true
is_lower _ = false

-- rows descend where the left-hand triangular factor is upper
abbrev pub rows_descend_by : Operation → Form → Bool
rows_descend_by op (Left t) = is_upper (factor_structure op t)
rows_descend_by op (Sylvester t u minus) = is_upper (factor_structure op t)
rows_descend_by op _ = false

-- columns descend where the right-hand triangular factor is lower
abbrev pub cols_descend_by : Operation → Form → Bool
cols_descend_by op (Right t) = is_lower (factor_structure op t)
cols_descend_by op (Sylvester t u minus) = is_lower (factor_structure op u)
cols_descend_by op _ = false

abbrev pub rows_descend : Operation → Bool
rows_descend op = rows_descend_by op op.form

abbrev pub cols_descend : Operation → Bool
cols_descend op = cols_descend_by op op.form

-- ---- the order as a relation

-- a number before another, in a direction
abbrev pub comes_before : Bool → ℕ → ℕ → Bool
comes_before descend a b = if descend then nat_lt b a else nat_lt a b

-- the place of a kind within a block
abbrev pub rank : Kind → ℕ
rank kinds.Pivots = 0
rank kinds.Term = 1
rank kinds.Left = 2
rank kinds.Right = 3
rank kinds.Solve = 4

-- a before b by kind, then term, then inner part
abbrev pub earlier_in_block : Task → Task → Bool
earlier_in_block a b = nat_lt (rank a.kind) (rank b.kind)
    || (rank a.kind == rank b.kind && (nat_lt a.term b.term || (a.term == b.term && nat_lt a.k b.k)))

-- a before b by row, then column, then within the block
abbrev pub is_earlier : Operation → Task → Task → Bool
is_earlier op a b = comes_before (rows_descend op) a.i b.i
    || (a.i == b.i && (comes_before (cols_descend op) a.j b.j || (a.j == b.j && earlier_in_block a b)))

-- ---- the tasks in that order

-- 0, 1, .. up to, and without, n
abbrev pub numbers_below : ℕ → List ℕ
numbers_below zero = []
numbers_below (suc n) = numbers_below n ++ n ∷ []

-- the same in a direction
abbrev pub numbers_in : Bool → ℕ → List ℕ
numbers_in descend n = if descend then reverse (numbers_below n) else numbers_below n

abbrev pub task_of : Kind → ℕ → ℕ → ℕ → ℕ → Task
task_of kind t i j k = record { kind = kind; term = t; i = i; j = j; k = k }

-- the products of the terms from number t on
abbrev pub term_candidates : Operation → List ℕ → List Term → ℕ → ℕ → ℕ → List Task
term_candidates op counts [] t i j = []
term_candidates op counts (term ∷ terms) t i j = map (λ k. task_of kinds.Term t i j k) (numbers_below (parts_of counts (factor_cols op term.first))) ++ term_candidates op counts terms (t + 1) i j

-- all that block (i, j) may have, in order
abbrev pub candidates : Operation → List ℕ → ℕ → ℕ → List Task
candidates op counts i j = term_candidates op counts op.terms 1 i j
    ++ map (λ k. task_of kinds.Left 0 i j k) (numbers_below (parts_of counts op.work.rows))
    ++ map (λ k. task_of kinds.Right 0 i j k) (numbers_below (parts_of counts op.work.cols))
    ++ task_of kinds.Solve 0 i j 0 ∷ []

-- the tasks of the operation, in canonical order
abbrev pub tasks_of : Operation → List ℕ → List Task
tasks_of op counts = flat_map (λ i. flat_map (λ j. filter (has op counts) (candidates op counts i j))
    (numbers_in (cols_descend op) (parts_of counts op.work.cols))) (numbers_in (rows_descend op) (parts_of counts op.work.rows))
