-- What a step of a statement leaves in the block that it changes, over the blocks of the known matrices and those of W: what
-- the kernel of its kind and form leaves there, or the first bad pivot that it meets.
use Rattle.std.specs.Prelude.{◌≡◌, ℕ, zero, suc, ◌+◌, ◌*◌, ◌/◌, ◌%◌, ◌<◌, List, [], ◌∷◌, Bool, true, false, not, ◌==◌, nat_lt, if◌then◌else◌}
use Rattle.residue_sums.specs.Sums.{part_count}
use Rattle.residue_sums.specs.Tables.{Table, oriented, transpose}
use Rattle.residue_sums.specs.Grids.{Grid, entry}
use Rattle.structure_rules.specs.declared.Structure.{Structure}
use Rattle.structure_rules.specs.declared.Structure.TheVariants as structures
use Rattle.structure_rules.specs.Structures.{view, stored_of}
use Rattle.operation_spec.specs.declared.operation.Operation.{Operation}
use Rattle.operation_spec.specs.declared.operation.Factor.{Factor}
use Rattle.operation_spec.specs.declared.operation.Term.{Term}
use Rattle.operation_spec.specs.declared.operation.Form.{Form}
use Rattle.operation_spec.specs.declared.operation.Form.TheVariants.{Assign, Left, Right, Sylvester, Lu, Ldl}
use Rattle.operation_spec.specs.declared.task.Kind.{Kind}
use Rattle.operation_spec.specs.declared.task.Kind.TheVariants as kinds
use Rattle.operation_spec.specs.declared.task.Task.{Task}
use Rattle.task_graph.specs.Factors.{known}
use Rattle.equation.specs.declared.job.Place.{Place}
use Rattle.equation.specs.Kernels.{combined, IsUpdated, IsUpdatedLdl, IsSolvedLeft, IsSolvedRight, IsSolvedRightLdl, IsSolvedSylvester, IsFactoredLu, IsFactoredLdl, AreInverses, AreInversesOfPairs}
use Rattle.equation.specs.Pivots.{IsBadForLu, IsBadForLdl, IsFirstOnDiagonal, IsFirstByRows}
use Rattle.equation.specs.Equations.{known_grid}
use Rattle.flash_blocks.specs.Blocks.{Blocks, block_of}

-- ---- blocks that are read

-- blocks of the known matrices
abbrev pub AreKnown : ℕ → List Grid → (ℕ → Blocks) → Type 0
AreKnown b knowns blocks = (k i j : ℕ) → i < part_count (known_grid knowns k).rows b → j < part_count (known_grid knowns k).cols b → blocks k i j ≡ block_of b (known_grid knowns k) i j

-- block (i, k) of a view: a diagonal block is viewed itself, any other is the stored block or its transpose
abbrev pub view_block : Structure → Blocks → ℕ → ℕ → Table
view_block s blocks i k = if i == k then view s (entry (blocks i k))
    else oriented (stored_of s i k).transposed (entry (blocks (stored_of s i k).row (stored_of s i k).col))

-- how many columns and rows it has
abbrev pub view_block_cols : Structure → Blocks → ℕ → ℕ → ℕ
view_block_cols s blocks i k = if (stored_of s i k).transposed then (blocks (stored_of s i k).row (stored_of s i k).col).rows
    else (blocks (stored_of s i k).row (stored_of s i k).col).cols

abbrev pub view_block_rows : Structure → Blocks → ℕ → ℕ → ℕ
view_block_rows s blocks i k = if (stored_of s i k).transposed then (blocks (stored_of s i k).row (stored_of s i k).col).cols
    else (blocks (stored_of s i k).row (stored_of s i k).col).rows

-- block (i, k) of op(F), out of the blocks of the known matrices, and how many columns it has
abbrev pub factor_block : Operation → (ℕ → Blocks) → Factor → ℕ → ℕ → Table
factor_block op knowns f i k = if f.primed then transpose (view_block (known op f.known).structure (knowns f.known) k i)
    else view_block (known op f.known).structure (knowns f.known) i k

abbrev pub factor_block_cols : Operation → (ℕ → Blocks) → Factor → ℕ → ℕ → ℕ
factor_block_cols op knowns f i k = if f.primed then view_block_rows (known op f.known).structure (knowns f.known) k i
    else view_block_cols (known op f.known).structure (knowns f.known) i k

-- how many rows op(F) has
abbrev pub factor_rows : List Grid → Factor → ℕ
factor_rows knowns f = if f.primed then (known_grid knowns f.known).cols else (known_grid knowns f.known).rows

-- the structure of block (i, j) of a matrix of a structure, where it is no zero block
abbrev pub block_structure : Structure → ℕ → ℕ → Structure
block_structure s i j = if i == j then s else structures.General

-- block (i, j) of X, the work matrix as its structure views it
abbrev pub solution_block : Operation → Blocks → ℕ → ℕ → Table
solution_block op work i j = view (block_structure op.work.structure i j) (entry (work i j))

-- W is general where the form solves whole blocks, and lower in Ldl
abbrev pub SuitsForm : Operation → Form → Type 0
SuitsForm op (Sylvester t u negative) = op.work.structure ≡ structures.General
SuitsForm op Lu = op.work.structure ≡ structures.General
SuitsForm op Ldl = op.work.structure ≡ structures.Lower
SuitsForm op form = Unit {0}

-- ---- updates of block (i, j), with the inner part k

-- op(F) * op(G) of the term at place t of a list is added, or subtracted
abbrev pub term_effect : ℕ → Operation → (ℕ → Blocks) → Blocks → List Term → ℕ → ℕ → ℕ → ℕ → Grid → Type 0
term_effect m op knowns work [] t i j k new = ⊥
term_effect m op knowns work (term ∷ terms) zero i j k new = IsUpdated m term.minus (block_structure op.work.structure i j)
    (factor_block_cols op knowns term.first i k) (factor_block op knowns term.first i k) (factor_block op knowns term.second k j) (work i j) new
term_effect m op knowns work (term ∷ terms) (suc t) i j k new = term_effect m op knowns work terms t i j k new

-- the same, where terms are numbered from 1
abbrev pub numbered_term_effect : ℕ → Operation → (ℕ → Blocks) → Blocks → ℕ → ℕ → ℕ → ℕ → Grid → Type 0
numbered_term_effect m op knowns work zero i j k new = ⊥
numbered_term_effect m op knowns work (suc t) i j k new = term_effect m op knowns work op.terms t i j k new

-- op(T) * X, L * U or L * D * L' is subtracted
abbrev pub left_effect : ℕ → Operation → (ℕ → Blocks) → Blocks → Form → ℕ → ℕ → ℕ → Grid → Type 0
left_effect m op knowns work (Left t) i j k new =
    IsUpdated m true (block_structure op.work.structure i j) (work k j).rows (factor_block op knowns t i k) (solution_block op work k j) (work i j) new
left_effect m op knowns work (Sylvester t u negative) i j k new =
    IsUpdated m true (block_structure op.work.structure i j) (work k j).rows (factor_block op knowns t i k) (solution_block op work k j) (work i j) new
left_effect m op knowns work Lu i j k new =
    IsUpdated m true (block_structure op.work.structure i j) (work i k).cols (entry (work i k)) (entry (work k j)) (work i j) new
left_effect m op knowns work Ldl i j k new = IsUpdatedLdl m (block_structure op.work.structure i j) (work i k).cols
    (entry (work i k)) (view structures.Diagonal (entry (work k k))) (transpose (entry (work j k))) (work i j) new
left_effect m op knowns work form i j k new = ⊥

-- X * op(U) is subtracted, or added where the form has a minus
abbrev pub right_effect : ℕ → Operation → (ℕ → Blocks) → Blocks → Form → ℕ → ℕ → ℕ → Grid → Type 0
right_effect m op knowns work (Right u) i j k new =
    IsUpdated m true (block_structure op.work.structure i j) (work i k).cols (solution_block op work i k) (factor_block op knowns u k j) (work i j) new
right_effect m op knowns work (Sylvester t u negative) i j k new = IsUpdated m (not negative) (block_structure op.work.structure i j)
    (work i k).cols (solution_block op work i k) (factor_block op knowns u k j) (work i j) new
right_effect m op knowns work form i j k new = ⊥

-- ---- solves of block (i, j), with the diagonal blocks

-- LU of a diagonal block; above it a solve with its L, below it one with its U
abbrev pub lu_effect : ℕ → Blocks → Bool → Bool → ℕ → ℕ → Grid → Type 0
lu_effect m work true below i j new = IsSolvedLeft m structures.General (view structures.UnitLower (entry (work i i))) (work i j) new
lu_effect m work false true i j new = IsSolvedRight m structures.General (view structures.Upper (entry (work j j))) (work i j) new
lu_effect m work false false i j new = IsFactoredLu m (work i j) new

-- LDL of a diagonal block; below it a solve with its D and L
abbrev pub ldl_effect : ℕ → Blocks → Bool → ℕ → ℕ → Grid → Type 0
ldl_effect m work true i j new = IsSolvedRightLdl m (entry (work j j)) (work i j) new
ldl_effect m work false i j new = IsFactoredLdl m (work i j) new

abbrev pub solve_effect : ℕ → Operation → (ℕ → Blocks) → Blocks → Form → ℕ → ℕ → Grid → Type 0
solve_effect m op knowns work Assign i j new = ⊥
solve_effect m op knowns work (Left t) i j new = IsSolvedLeft m (block_structure op.work.structure i j) (factor_block op knowns t i i) (work i j) new
solve_effect m op knowns work (Right u) i j new = IsSolvedRight m (block_structure op.work.structure i j) (factor_block op knowns u j j) (work i j) new
solve_effect m op knowns work (Sylvester t u negative) i j new =
    IsSolvedSylvester m negative (factor_block op knowns t i i) (factor_block op knowns u j j) (work i j) new
solve_effect m op knowns work Lu i j new = lu_effect m work (nat_lt i j) (nat_lt j i) i j new
solve_effect m op knowns work Ldl i j new = ldl_effect m work (nat_lt j i) i j new

-- ---- block tasks

-- what a task of a kind leaves in block (i, j)
abbrev pub effect_by : ℕ → Operation → (ℕ → Blocks) → Blocks → Kind → ℕ → ℕ → ℕ → ℕ → Grid → Type 0
effect_by m op knowns work kinds.Pivots t i j k new = ⊥
effect_by m op knowns work kinds.Term t i j k new = numbered_term_effect m op knowns work t i j k new
effect_by m op knowns work kinds.Left t i j k new = left_effect m op knowns work op.form i j k new
effect_by m op knowns work kinds.Right t i j k new = right_effect m op knowns work op.form i j k new
effect_by m op knowns work kinds.Solve t i j k new = solve_effect m op knowns work op.form i j new

-- what a block task makes of its block of W
abbrev pub IsEffect : ℕ → Operation → (ℕ → Blocks) → Blocks → Task → Grid → Type 0
IsEffect m op knowns work task new = effect_by m op knowns work task.kind task.term task.i task.j task.k new

-- a factorisation of the diagonal block i meets its first bad pivot, at a place of the whole matrix
abbrev pub IsBadDiagonal : (Table → ℕ → Type 0) → ℕ → Blocks → ℕ → ℕ → Place → Type 0
IsBadDiagonal IsBad b work i j place = (i ≡ j) × (place.col ≡ place.row)
    × ((q : ℕ) × (place.row ≡ i * b + q) × (q < (work i j).rows) × IsBad (entry (work i j)) q)

abbrev pub bad_factor : ℕ → ℕ → Form → Blocks → ℕ → ℕ → Place → Type 0
bad_factor m b Lu work i j place = IsBadDiagonal (IsBadForLu m) b work i j place
bad_factor m b Ldl work i j place = IsBadDiagonal (IsBadForLdl m) b work i j place
bad_factor m b form work i j place = ⊥

-- a task of a kind meets a bad pivot
abbrev pub bad_by : ℕ → ℕ → Form → Blocks → Kind → ℕ → ℕ → Place → Type 0
bad_by m b form work kinds.Solve i j place = bad_factor m b form work i j place
bad_by m b form work kind i j place = ⊥

abbrev pub IsBadTask : ℕ → ℕ → Operation → Blocks → Task → Place → Type 0
IsBadTask m b op work task place = bad_by m b op.form work task.kind task.i task.j place

-- ---- the step that tests the pivots of a statement

-- op(F) on its diagonal, out of its diagonal blocks
abbrev pub block_diagonal : ℕ → Operation → (ℕ → Blocks) → Factor → Table
block_diagonal b op knowns f i j = factor_block op knowns f (i / b) (j / b) (i % b) (j % b)

-- the pivot list of a form becomes that of the inverses
abbrev pub pivots_effect : ℕ → ℕ → Operation → (ℕ → Blocks) → Form → Grid → Grid → Type 0
pivots_effect m b op knowns (Left t) old new = AreInverses m (block_diagonal b op knowns t) old new
pivots_effect m b op knowns (Right u) old new = AreInverses m (block_diagonal b op knowns u) old new
pivots_effect m b op knowns (Sylvester t u negative) old new = AreInversesOfPairs m negative (block_diagonal b op knowns t) (block_diagonal b op knowns u) old new
pivots_effect m b op knowns form old new = ⊥

-- the first pivot without inverse, at its place in the whole matrix; rows and cols are those of W
abbrev pub bad_pivots : ℕ → ℕ → Operation → (ℕ → Blocks) → ℕ → ℕ → Form → Place → Type 0
bad_pivots m b op knowns rows cols (Left t) place = IsFirstOnDiagonal m rows (λ i. block_diagonal b op knowns t i i) place
bad_pivots m b op knowns rows cols (Right u) place = IsFirstOnDiagonal m cols (λ j. block_diagonal b op knowns u j j) place
bad_pivots m b op knowns rows cols (Sylvester t u negative) place =
    IsFirstByRows m rows cols (combined m negative (λ i j. block_diagonal b op knowns t i i) (λ i j. block_diagonal b op knowns u j j)) place
bad_pivots m b op knowns rows cols form place = ⊥
