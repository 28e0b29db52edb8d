-- The diagonal blocks that the test of a statement's pivots reads, and the pivots in them.
use Rattle.std.proofs.Common.{◌≡◌, ℕ, zero, suc, ◌+◌, ◌/◌, ◌%◌, ◌<◌, Bool, List, [], ◌∷◌, ◌++◌, length, map, refl, sym, ◌∙◌, ap, arith}
use Rattle.std.specs.List.{range_with_len}
use Rattle.std.proofs.lemmas.List.{get_or_append_left, get_or-append-add, length-append, length-map, map_push}
use Rattle.std.proofs.lemmas.List.FromFn.{get_or-map-range_with_len, length-map-range_with_len, map-range_with_len_more}
use Rattle.residue_sums.specs.Sums.{part_count, part_length}
use Rattle.residue_sums.specs.Tables.{Table}
use Rattle.residue_sums.specs.Grids.{Grid, AreResidues}
use Rattle.residue_sums.proofs.Parts.{index_from_place, part_below_count}
use Rattle.operation_spec.specs.declared.operation.Factor.{Factor}
use Rattle.operation_spec.specs.declared.operation.Form.{Form}
use Rattle.operation_spec.specs.declared.operation.Form.TheVariants.{Assign, Left, Right, Sylvester, Lu, Ldl}
use Rattle.task_graph.specs.Factors.{known}
use Rattle.task_graph.specs.Order.{numbers_below}
use Rattle.matrix_parts.specs.declared.oper.Oper.{Oper}
use Rattle.matrix_parts.specs.Opers.{op_rows, op_cols, op_table, IsOper}
use Rattle.equation.proofs.FactorSizes.{left_known, right_known, sylvester_knowns}
use Rattle.equation.proofs.ValidForms.{IsTriangleOn, left-on, right-on, sylvester-on}
use Rattle.equation.specs.Jobs.{nth_grid, no_grid}
use Rattle.flash_blocks.specs.Blocks.{Blocks}
use Rattle.block_tasks.specs.Effects.{block_diagonal, factor_block}
use Rattle.block_kernels.specs.declared.block_task.BlockTask.{BlockTask}
use Rattle.block_kernels.specs.BlockOpers.{IsBlockOper}
use Rattle.block_kernels.specs.PivotLists.{ArePivots, CanInvert, HasDiagonal, HasList}
use Rattle.block_kernels.specs.ReadGrids.{diagonal_grids, factor_grid, pivot_grids}
use Rattle.block_kernels.specs.Ready.{grids_of}
use Rattle.block_kernels.proofs.TaskBlocks.{IsRead, factor-is_read, triangle_dims}

-- ---- lists of blocks

-- the values of a function at the numbers below n
listed : (f : ℕ → Grid) (n : ℕ) → map f (numbers_below n) ≡ map f (range_with_len 0 n)
listed f zero = refl
listed f (suc n) =
    map_push f (numbers_below n) n
    ∙ ap (λ (gs : List Grid). gs ++ f n ∷ []) (listed f n)
    ∙ sym (map-range_with_len_more f 0 n n (omega arith))
    ∙ ap (λ (k : ℕ). map f (range_with_len 0 k)) next
  where
    next : n + 1 ≡ suc n
    next = omega arith

-- how many there are, and the one at place p
listed-count : (f : ℕ → Grid) (n : ℕ) → length (map f (numbers_below n)) ≡ n
listed-count f n = ap (λ (gs : List Grid). length gs) (listed f n) ∙ length-map-range_with_len f 0 n

listed-at : (f : ℕ → Grid) (n p : ℕ) → p < n → nth_grid (map f (numbers_below n)) p ≡ f p
listed-at f n p below = ap (λ (gs : List Grid). nth_grid gs p) (listed f n) ∙ get_or-map-range_with_len f 0 n p p no_grid below (omega arith)

-- from a place on, a list has the values of a function below n
abbrev HasListed : (ℕ → Grid) → ℕ → ℕ → List Grid → Type 0
HasListed f from n gs = (p : ℕ) → p < n → (from + p < length gs) × (nth_grid gs (from + p) ≡ f p)

from_first : (f : ℕ → Grid) (n : ℕ) (gs : List Grid) → ((p : ℕ) → p < n → (p < length gs) × (nth_grid gs p ≡ f p)) → HasListed f 0 n gs
from_first f n gs each p below = let e : 0 + p ≡ p = omega arith in rw e (each p below)

all_listed : (f : ℕ → Grid) (n : ℕ) (gs : List Grid) → gs ≡ map f (numbers_below n) → HasListed f 0 n gs
all_listed f n gs is = from_first f n gs (λ p below. rw is (omega (arith, listed-count f n), listed-at f n p below))

first_listed : (f : ℕ → Grid) (n : ℕ) (gs back : List Grid) → gs ≡ map f (numbers_below n) ++ back → HasListed f 0 n gs
first_listed f n gs back is =
    let count : length (map f (numbers_below n)) ≡ n = listed-count f n in
    from_first f n gs (λ p below. rw is (
      omega (arith, length-append (map f (numbers_below n)) back, count),
      get_or_append_left (map f (numbers_below n)) back no_grid p (omega (arith, count)) ∙ listed-at f n p below,
    ))

last_listed : (f : ℕ → Grid) (from n : ℕ) (gs front : List Grid) → length front ≡ from → gs ≡ front ++ map f (numbers_below n) → HasListed f from n gs
last_listed f from n gs front long is p below =
    rw (is, ← long) (
      omega (arith, length-append front (map f (numbers_below n)), listed-count f n),
      get_or-append-add front (map f (numbers_below n)) p no_grid ∙ listed-at f n p below,
    )

-- ---- lists of the same sizes

HasList-same : (form : Form) (rows cols : ℕ) (old new : Grid) → new.rows ≡ old.rows → new.cols ≡ old.cols → HasList form rows cols old → HasList form rows cols new
HasList-same (Left t) rows cols old new r c is = (r ∙ is.0, c ∙ is.1)
HasList-same (Right t) rows cols old new r c is = (r ∙ is.0, c ∙ is.1)
HasList-same (Sylvester t u negative) rows cols old new r c is = (r ∙ is.0, c ∙ is.1)
HasList-same Assign rows cols old new r c is = is
HasList-same Lu rows cols old new r c is = is
HasList-same Ldl rows cols old new r c is = is

pub ArePivots-same : (t : BlockTask) (knowns : ℕ → Blocks) (rows cols : ℕ) (old new : Grid) → new.rows ≡ old.rows → new.cols ≡ old.cols
    → ArePivots t knowns rows cols old → ArePivots t knowns rows cols new
ArePivots-same t knowns rows cols old new r c are = record {
  lengths = are.lengths;
  has_knowns = are.has_knowns;
  rows_are = are.rows_are;
  cols_are = are.cols_are;
  list_is = HasList-same t.op.now.form rows cols old new r c are.list_is;
  stored = are.stored;
  reads = are.reads;
}

pub CanInvert-same : (t : BlockTask) (old new : Grid) → new.rows ≡ old.rows → new.cols ≡ old.cols → CanInvert t old → CanInvert t new
CanInvert-same t old new r c can = record {
  knowns = can.knowns;
  rows = can.rows;
  cols = can.cols;
  pivots = ArePivots-same t can.knowns can.rows can.cols old new r c can.pivots;
}

-- ---- the diagonals of a form's factors

module _ (t : BlockTask) (knowns : ℕ → Blocks) (rows cols : ℕ) (list : Grid) (are : ArePivots t knowns rows cols list) where
  abbrev blocks_of : Factor → ℕ → Grid
  blocks_of f p = factor_grid t.op.now knowns f p p

  diagonal_on : (f : Factor) (from n dim : ℕ) → f.known < length t.op.now.knowns → IsTriangleOn t.op.now dim f → n ≡ are.lengths dim
      → HasListed (blocks_of f) from (part_count n t.b) (grids_of t) → HasDiagonal t knowns f from n
  diagonal_on f from n dim below on size have =
      let dims = triangle_dims t.op.now are.has_knowns.valid dim f below on in
      record {
        lengths = are.lengths;
        has_knowns = are.has_knowns;
        stored = are.stored;
        known_in = below;
        dim = dim;
        rows_on = dims.0;
        cols_on = dims.1;
        size = size;
        read = λ p p_in. let h = have p p_in in (omega (arith, h.0, length-map t.reads.now (nth_grid t.store)), h.1);
      }

  pub left_diagonal : (f : Factor) → t.op.now.form ≡ Left f → HasDiagonal t knowns f 0 list.cols
  left_diagonal f form =
      let list_is : HasList (Left f) rows cols list = rw form at are.list_is in
      let reads : grids_of t ≡ pivot_grids t.b t.op.now knowns rows cols (Left f) = rw form at are.reads in
      rw list_is.1 (diagonal_on f 0 rows t.op.now.work.rows (left_known t.op.now are.has_knowns.valid f form) (left-on t.op.now are.has_knowns.valid f form)
      are.rows_are (all_listed (blocks_of f) (part_count rows t.b) (grids_of t) reads))

  pub right_diagonal : (f : Factor) → t.op.now.form ≡ Right f → HasDiagonal t knowns f 0 list.cols
  right_diagonal f form =
      let list_is : HasList (Right f) rows cols list = rw form at are.list_is in
      let reads : grids_of t ≡ pivot_grids t.b t.op.now knowns rows cols (Right f) = rw form at are.reads in
      rw list_is.1 (diagonal_on f 0 cols t.op.now.work.cols (right_known t.op.now are.has_knowns.valid f form) (right-on t.op.now are.has_knowns.valid f form)
      are.cols_are (all_listed (blocks_of f) (part_count cols t.b) (grids_of t) reads))

  module _ (f h : Factor) (negative : Bool) (form : t.op.now.form ≡ Sylvester f h negative) where
    sizes : (list.rows ≡ rows) × (list.cols ≡ cols)
    sizes = rw form at are.list_is

    both_read : grids_of t ≡ diagonal_grids t.b t.op.now knowns f rows ++ diagonal_grids t.b t.op.now knowns h cols
    both_read = rw form at are.reads

    pub first_diagonal : HasDiagonal t knowns f 0 list.rows
    first_diagonal = rw sizes.0
        (diagonal_on f 0 rows t.op.now.work.rows (sylvester_knowns t.op.now are.has_knowns.valid f h negative form).0 (sylvester-on t.op.now are.has_knowns.valid f h negative form).0
        are.rows_are (first_listed (blocks_of f) (part_count rows t.b) (grids_of t) (diagonal_grids t.b t.op.now knowns h cols) both_read))

    pub second_diagonal : HasDiagonal t knowns h (part_count list.rows t.b) list.cols
    second_diagonal = rw (sizes.0, sizes.1)
        (diagonal_on h (part_count rows t.b) cols t.op.now.work.cols (sylvester_knowns t.op.now are.has_knowns.valid f h negative form).1 (sylvester-on t.op.now are.has_knowns.valid f h negative form).1
        are.cols_are (last_listed (blocks_of h) (part_count rows t.b) (part_count cols t.b) (grids_of t) (diagonal_grids t.b t.op.now knowns f rows)
        (listed-count (blocks_of f) (part_count rows t.b)) both_read))

-- ---- one pivot

module _ (t : BlockTask) (knowns : ℕ → Blocks) (f : Factor) (from n : ℕ) (has : HasDiagonal t knowns f from n) (q : ℕ) (below : q < n) where
  abbrev p : ℕ
  p = q / t.b

  p_in : p < part_count n t.b
  p_in = part_below_count n t.b q has.has_knowns.positive below

  pub block_there : from + q / t.b < length t.reads.now
  block_there = (has.read p p_in).0

  module _ (o : Oper) (is : IsBlockOper (known t.op.now f.known).structure f.primed (q / t.b) (q / t.b) (nth_grid (grids_of t) (from + q / t.b)) o) (residues : AreResidues t.m o.part) where
    pivot_block : IsRead t.m (part_length n t.b p) (part_length n t.b p) (factor_block t.op.now knowns f p p) o
    pivot_block =
        let inside : p < part_count (has.lengths has.dim) t.b = rw has.size at p_in in
        rw has.size (factor-is_read t.b t.m t.op.now has.lengths knowns has.has_knowns f has.known_in p p has.dim has.dim has.rows_on has.cols_on inside inside
        (nth_grid (grids_of t) (from + p)) o (has.read p p_in).1 is residues)

    pub pivot_oper : IsOper o
    pivot_oper = pivot_block.oper

    pub pivot_in : (q % t.b < op_rows o) × (q % t.b < op_cols o)
    pivot_in =
        let place : q % t.b < part_length n t.b p = (index_from_place n t.b q has.has_knowns.positive below).1 in
        (rw pivot_block.rows_is place, rw pivot_block.cols_is place)

    pub pivot_is : op_table o (q % t.b) (q % t.b) ≡ block_diagonal t.b t.op.now knowns f q q
    pivot_is = ap (λ (a : Table). a (q % t.b) (q % t.b)) pivot_block.table_is
