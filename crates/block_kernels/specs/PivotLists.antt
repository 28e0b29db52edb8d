-- What whoever has the pivots of a statement inverted has to show, and what comes of it.
use Rattle.std.specs.Prelude.{◌≡◌, ℕ, ◌+◌, ◌*◌, ◌%◌, ◌<◌, Bool, length, Option, MatchOption, if◌then◌else◌}
use Rattle.residue_sums.specs.Sums.{part_count}
use Rattle.residue_sums.specs.Tables.{Table}
use Rattle.residue_sums.specs.Grids.{Grid, entry}
use Rattle.operation_spec.specs.declared.operation.Operation.{Operation}
use Rattle.operation_spec.specs.declared.operation.Factor.{Factor}
use Rattle.operation_spec.specs.declared.operation.Form.{Form}
use Rattle.operation_spec.specs.declared.operation.Form.TheVariants.{Left, Right, Sylvester}
use Rattle.task_graph.specs.Factors.{known}
use Rattle.equation.specs.declared.job.Place.{Place}
use Rattle.equation.specs.Jobs.{nth_grid}
use Rattle.equation.specs.Kernels.{combined}
use Rattle.flash_blocks.specs.Blocks.{Blocks}
use Rattle.block_tasks.specs.Effects.{bad_pivots, block_diagonal, pivots_effect}
use Rattle.block_kernels.specs.declared.block_task.BlockTask.{BlockTask}
use Rattle.block_kernels.specs.ReadGrids.{factor_grid, pivot_grids}
use Rattle.block_kernels.specs.Ready.{HasKnowns, IsStored, grids_of}

-- ---- the step

-- the form has a list of so many rows and columns, for W of so many rows and columns
abbrev pub HasList : Form → ℕ → ℕ → Grid → Type 0
HasList (Left t) rows cols list = (list.rows ≡ 1) × (list.cols ≡ rows)
HasList (Right u) rows cols list = (list.rows ≡ 1) × (list.cols ≡ cols)
HasList (Sylvester t u negative) rows cols list = (list.rows ≡ rows) × (list.cols ≡ cols)
HasList form rows cols list = ⊥

-- the step that inverts the pivots of a statement, for known matrices with these blocks, W of so many rows and columns, and the
-- statement's list: what it reads are the diagonal blocks of the form's triangular factors
pub record ArePivots (t : BlockTask) (knowns : ℕ → Blocks) (rows cols : ℕ) (list : Grid) : Type 0 where
  pub lengths : ℕ → ℕ
  pub has_knowns : HasKnowns t.b t.op.now lengths knowns
  pub rows_are : rows ≡ lengths t.op.now.work.rows
  pub cols_are : cols ≡ lengths t.op.now.work.cols
  pub list_is : HasList t.op.now.form rows cols list
  pub stored : IsStored t
  pub reads : grids_of t ≡ pivot_grids t.b t.op.now knowns rows cols t.op.now.form

-- there are such blocks
pub record CanInvert (t : BlockTask) (list : Grid) : Type 0 where
  pub knowns : ℕ → Blocks
  pub rows : ℕ
  pub cols : ℕ
  pub pivots : ArePivots t knowns rows cols list

-- no place has a pivot without inverse
abbrev pub AllHaveInverses : BlockTask → (ℕ → Blocks) → ℕ → ℕ → Type 0
AllHaveInverses t knowns rows cols = (place : Place) → ¬ (bad_pivots t.m t.b t.op.now knowns rows cols t.op.now.form place)

-- the list has become that of the inverses, which all pivots have, or the first pivot that has none was met
abbrev pub AreInverted : BlockTask → Grid → Grid → Option Place → Type 0
AreInverted t old new bad = (knowns : ℕ → Blocks) (rows cols : ℕ) → ArePivots t knowns rows cols old
    → MatchOption bad (pivots_effect t.m t.b t.op.now knowns t.op.now.form old new × AllHaveInverses t knowns rows cols)
    (bad_pivots t.m t.b t.op.now knowns rows cols t.op.now.form)

-- ---- the pivots

-- what the entries of a form's list are the inverses of
abbrev pub list_pivots : ℕ → ℕ → Operation → (ℕ → Blocks) → Form → Table
list_pivots m b op knowns (Left t) = λ i j. block_diagonal b op knowns t j j
list_pivots m b op knowns (Right u) = λ i j. block_diagonal b op knowns u j j
list_pivots m b op knowns (Sylvester t u negative) = combined m negative (λ i j. block_diagonal b op knowns t i i) (λ i j. block_diagonal b op knowns u j j)
list_pivots m b op knowns form = λ i j. 0

-- the pivot of a factor at place q, the sums or differences of those of two factors, and what the entries of the list invert
abbrev pub diagonal_pivot : BlockTask → (ℕ → Blocks) → Factor → ℕ → ℕ
diagonal_pivot t knowns f q = block_diagonal t.b t.op.now knowns f q q

abbrev pub paired_pivots : BlockTask → (ℕ → Blocks) → Factor → Factor → Bool → Table
paired_pivots t knowns f g negative = combined t.m negative (λ i j. diagonal_pivot t knowns f i) (λ i j. diagonal_pivot t knowns g j)

abbrev pub pivots_of : BlockTask → (ℕ → Blocks) → Table
pivots_of t knowns = list_pivots t.m t.b t.op.now knowns t.op.now.form

-- the pivot that an entry of the list belongs to has this place in the whole matrix
abbrev pub pivot_place : Form → ℕ → ℕ → Place
pivot_place (Sylvester t u negative) i j = record { row = i; col = j }
pivot_place form i j = record { row = j; col = j }

-- the list has the inverse of a pivot in row i and column j
abbrev pub HasInverse : ℕ → Table → Grid → ℕ → ℕ → Type 0
HasInverse m pivot list i j = ((pivot i j * entry list i j) % m ≡ 1) × (entry list i j < m)

-- ---- one factor

-- from a place on, the blocks that are read are the diagonal blocks of op(F), which is square and of size n
pub record HasDiagonal (t : BlockTask) (knowns : ℕ → Blocks) (f : Factor) (from n : ℕ) : Type 0 where
  pub lengths : ℕ → ℕ
  pub has_knowns : HasKnowns t.b t.op.now lengths knowns
  pub stored : IsStored t
  pub known_in : f.known < length t.op.now.knowns
  pub dim : ℕ
  pub rows_on : (if f.primed then (known t.op.now f.known).cols else (known t.op.now f.known).rows) ≡ dim
  pub cols_on : (if f.primed then (known t.op.now f.known).rows else (known t.op.now f.known).cols) ≡ dim
  pub size : n ≡ lengths dim
  pub read : (p : ℕ) → p < part_count n t.b → (from + p < length t.reads.now) × (nth_grid (grids_of t) (from + p) ≡ factor_grid t.op.now knowns f p p)

-- and there is a pivot at place q
pub record HasPivot (t : BlockTask) (f : Factor) (from q : ℕ) : Type 0 where
  pub knowns : ℕ → Blocks
  pub size : ℕ
  pub diagonal : HasDiagonal t knowns f from size
  pub within : q < size
