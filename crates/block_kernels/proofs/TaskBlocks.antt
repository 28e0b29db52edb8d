-- What is known of the blocks of a task that is ready: where they stand, and of which sizes they are. Cited by all kernels.
use Rattle.std.proofs.Common.{◌≡◌, ◌≢◌, ℕ, zero, suc, ◌+◌, ◌-◌, ◌*◌, ◌<◌, ◌≤◌, ◌⊎◌, inl, inr, Bool, true, false, not, if◌then◌else◌, List, length, get_or, Contains, cond, refl, sym, ◌∙◌, ap, ap₂, subst, arith, add-one}
use Rattle.std.specs.Prelude.{◌==◌, ◌&&◌, nat_lt, min}
use Rattle.std.proofs.Math.Nat.{mul-le-mul_right, div-mul-le_self}
use Rattle.std.proofs.lemmas.Bool.{and_parts, cases_eq, false≢true, ltb-true}
use Rattle.std.proofs.lemmas.Bool.Decides.{nat_tests}
use Rattle.std.proofs.lemmas.List.{get_or-map, length-map}
use Rattle.residue_sums.specs.Sums.{part_count, part_length}
use Rattle.residue_sums.specs.Tables.{Table}
use Rattle.residue_sums.specs.Grids.{Grid, AreResidues, entry}
use Rattle.structure_rules.specs.declared.Structure.{Structure}
use Rattle.structure_rules.specs.declared.Structure.TheVariants.{General}
use Rattle.structure_rules.specs.Structures.{view, IsTriangular, is_zero}
use Rattle.operation_spec.specs.declared.operation.Operation.{Operation}
use Rattle.operation_spec.specs.declared.operation.Factor.{Factor}
use Rattle.operation_spec.specs.declared.operation.Term.{Term}
use Rattle.operation_spec.specs.declared.operation.Form.TheVariants.{Assign}
use Rattle.operation_spec.specs.declared.task.Kind.TheVariants as kinds
use Rattle.operation_spec.specs.ValidOperations.{IsValid, IsOperand}
use Rattle.operation_spec.specs.Equations.{Size, size_of, side_of_factor}
use Rattle.task_graph.specs.Factors.{known}
use Rattle.task_graph.specs.Tasks.{has_solve, has_task, is_work_block, parts_of}
use Rattle.matrix_parts.specs.declared.oper.Oper.{Oper}
use Rattle.matrix_parts.specs.Opers.{op_rows, op_cols, op_table, IsOper}
use Rattle.equation.proofs.FactorSizes.{term_sizes}
use Rattle.equation.proofs.ValidForms.{IsTriangleOn}
use Rattle.equation.proofs.OneSolution.{AreResidues-nth}
use Rattle.equation.specs.Jobs.{nth_grid, no_grid}
use Rattle.equation.specs.Kernels.{IsUpdated}
use Rattle.flash_blocks.specs.Blocks.{Blocks}
use Rattle.block_tasks.specs.Effects.{block_structure, factor_block, factor_block_cols}
use Rattle.block_kernels.specs.declared.block_task.BlockTask.{BlockTask}
use Rattle.block_kernels.specs.BlockOpers.{IsBlockOper}
use Rattle.block_kernels.specs.ReadGrids.{factor_grid}
use Rattle.block_kernels.specs.Ready.{HasKnowns, IsReady, grids_of}
use Rattle.block_kernels.proofs.ReadOpers.{oper-table, oper-cols, oper-rows, read-sizes, read-oper}

-- an operand that has a table of so many rows and columns, of residues
pub record IsRead (m rows cols : ℕ) (table : Table) (o : Oper) : Type 0 where
  pub table_is : op_table o ≡ table
  pub rows_is : op_rows o ≡ rows
  pub cols_is : op_cols o ≡ cols
  pub oper : IsOper o
  pub residues : AreResidues m o.part

-- what an update asks of its operands
pub record CanUpdate (m : ℕ) (g : Grid) (a b : Oper) : Type 0 where
  pub oper_a : IsOper a
  pub oper_b : IsOper b
  pub rows : op_rows a ≡ g.rows
  pub cols : op_cols b ≡ g.cols
  pub inner : op_rows b ≡ op_cols a
  pub first : AreResidues m a.part
  pub second : AreResidues m b.part

pub can_update : (m n : ℕ) (g : Grid) (first second : Table) (a b : Oper) → IsRead m g.rows n first a → IsRead m n g.cols second b → CanUpdate m g a b
can_update m n g first second a b is_a is_b = record {
  oper_a = is_a.oper;
  oper_b = is_b.oper;
  rows = is_a.rows_is;
  cols = is_b.cols_is;
  inner = is_b.rows_is ∙ sym is_a.cols_is;
  first = is_a.residues;
  second = is_b.residues;
}

-- an update by tables and an inner length that are the same
pub updated-same : (m : ℕ) (negative : Bool) (s : Structure) (n k : ℕ) (a c d e : Table) (old new : Grid) → n ≡ k → a ≡ c → d ≡ e
    → IsUpdated m negative s n a d old new → IsUpdated m negative s k c e old new
updated-same m negative s n k a c d e old new sizes firsts seconds is = rw (← sizes, ← firsts, ← seconds) is

-- ---- dimensions

dims_lengths : (lengths : ℕ → ℕ) (p : Bool) (x y r : ℕ) → (if p then x else y) ≡ r → (if p then lengths x else lengths y) ≡ lengths r
dims_lengths lengths true x y r e = ap lengths e
dims_lengths lengths false x y r e = ap lengths e

abbrev pub row_dim : Operation → Factor → ℕ
row_dim op f = if f.primed then (known op f.known).cols else (known op f.known).rows

abbrev pub col_dim : Operation → Factor → ℕ
col_dim op f = if f.primed then (known op f.known).rows else (known op f.known).cols

module _ (op : Operation) (valid : IsValid op) where
  pub work_operand : IsOperand op.dims op.work
  work_operand = valid.operands zero op.work (omega arith)

  pub known_operand : (k : ℕ) → k < length op.knowns → IsOperand op.dims (known op k)
  known_operand k below = valid.operands (suc k) op.work (omega arith)

  -- the dimensions of a factor are among the operation's
  pub row_dim_in : (f : Factor) → f.known < length op.knowns → row_dim op f < length op.dims
  row_dim_in f below = elim f.primed as (λ p. (if p then (known op f.known).cols else (known op f.known).rows) < length op.dims) [
    | true ↦ (known_operand f.known below).cols
    | false ↦ (known_operand f.known below).rows
  ]

  pub col_dim_in : (f : Factor) → f.known < length op.knowns → col_dim op f < length op.dims
  col_dim_in f below = elim f.primed as (λ p. (if p then (known op f.known).rows else (known op f.known).cols) < length op.dims) [
    | true ↦ (known_operand f.known below).rows
    | false ↦ (known_operand f.known below).cols
  ]

  -- those of the factors of a term
  size_rows : (f : Factor) → (size_of op.work op.knowns (side_of_factor f)).rows ≡ row_dim op f
  size_rows f = rw add-one (go f.primed)
    where
      go : (p : Bool) → (cond {A = Size} p (record { rows = (known op f.known).cols; cols = (known op f.known).rows }) (record { rows = (known op f.known).rows; cols = (known op f.known).cols })).rows
          ≡ (if p then (known op f.known).cols else (known op f.known).rows)
      go true = refl
      go false = refl

  size_cols : (f : Factor) → (size_of op.work op.knowns (side_of_factor f)).cols ≡ col_dim op f
  size_cols f = rw add-one (go f.primed)
    where
      go : (p : Bool) → (cond {A = Size} p (record { rows = (known op f.known).cols; cols = (known op f.known).rows }) (record { rows = (known op f.known).rows; cols = (known op f.known).cols })).cols
          ≡ (if p then (known op f.known).rows else (known op f.known).cols)
      go true = refl
      go false = refl

  pub term_dims : (term : Term) → Contains op.terms term
      → (row_dim op term.first ≡ op.work.rows) × (row_dim op term.second ≡ col_dim op term.first) × (col_dim op term.second ≡ op.work.cols)
  term_dims term among =
      let sizes = term_sizes op valid term among in
      (sym (size_rows term.first) ∙ sizes.1, sym (size_rows term.second) ∙ sym sizes.0 ∙ size_cols term.first, sym (size_cols term.second) ∙ sizes.2)

  -- those of a triangle on a dimension
  pub triangle_dims : (dim : ℕ) (f : Factor) → f.known < length op.knowns → IsTriangleOn op dim f → (row_dim op f ≡ dim) × (col_dim op f ≡ dim)
  triangle_dims dim f below on =
      let o : IsOperand op.dims (known op f.known) = known_operand f.known below in
      let rows : (known op f.known).rows ≡ dim = on.rows in
      let triangular : IsTriangular (known op f.known).structure = on.triangular in
      let cols : (known op f.known).cols ≡ dim = sym (o.square (λ e. rw e at triangular)) ∙ rows in
      go f.primed rows cols
    where
      go : (p : Bool) → (known op f.known).rows ≡ dim → (known op f.known).cols ≡ dim
          → ((if p then (known op f.known).cols else (known op f.known).rows) ≡ dim) × ((if p then (known op f.known).rows else (known op f.known).cols) ≡ dim)
      go true rows cols = (cols, rows)
      go false rows cols = (rows, cols)

-- ---- blocks of factors

module _ (b m : ℕ) (op : Operation) (lengths : ℕ → ℕ) (knowns : ℕ → Blocks) (has : HasKnowns b op lengths knowns) (f : Factor) (below : f.known < length op.knowns)
    (i k r c : ℕ) (row : row_dim op f ≡ r) (col : col_dim op f ≡ c) (i_in : i < part_count (lengths r) b) (k_in : k < part_count (lengths c) b)
    (g : Grid) (o : Oper) (read : g ≡ factor_grid op knowns f i k) (is : IsBlockOper (known op f.known).structure f.primed i k g o) where
  own : IsBlockOper (known op f.known).structure f.primed i k (factor_grid op knowns f i k) o
  own = subst (λ (x : Grid). IsBlockOper (known op f.known).structure f.primed i k x o) read is

  square : (known op f.known).structure ≢ General → lengths (known op f.known).rows ≡ lengths (known op f.known).cols
  square ne = let o : IsOperand op.dims (known op f.known) = known_operand op has.valid f.known below in ap lengths (o.square ne)

  -- it is read as the block of op(F)
  pub factor-is_read : AreResidues m o.part → IsRead m (part_length (lengths r) b i) (part_length (lengths c) b k) (factor_block op knowns f i k) o
  factor-is_read residues =
      let s : Structure = (known op f.known).structure in
      let rows_are = dims_lengths lengths f.primed (known op f.known).cols (known op f.known).rows r row in
      let cols_are = dims_lengths lengths f.primed (known op f.known).rows (known op f.known).cols c col in
      let sizes = read-sizes s b (lengths (known op f.known).rows) (lengths (known op f.known).cols) (knowns f.known) (has.parts f.known below) square f.primed i k (lengths r) (lengths c)
      rows_are cols_are i_in k_in in
      record {
        table_is = oper-table s (knowns f.known) f.primed i k o own;
        rows_is = oper-rows s (knowns f.known) f.primed i k o own ∙ sizes.0;
        cols_is = oper-cols s (knowns f.known) f.primed i k o own ∙ sizes.1;
        oper = read-oper s b (lengths (known op f.known).rows) (lengths (known op f.known).cols) (knowns f.known) (has.parts f.known below) square f.primed i k (lengths r) rows_are i_in o own;
        residues = residues;
      }

  pub factor-cols : op_cols o ≡ factor_block_cols op knowns f i k
  factor-cols = oper-cols (known op f.known).structure (knowns f.known) f.primed i k o own

-- ---- the task and its block

module _ (t : BlockTask) (knowns : ℕ → Blocks) (work : Blocks) (g : Grid) (ready : IsReady t knowns work g) where
  abbrev op : Operation
  op = t.op.now

  abbrev pub row_count : ℕ
  row_count = part_count (ready.lengths op.work.rows) t.b

  abbrev pub col_count : ℕ
  col_count = part_count (ready.lengths op.work.cols) t.b

  operand : IsOperand op.dims op.work
  operand = work_operand op ready.has_knowns.valid

  pub parts_own : (is_work_block op ready.counts t.task.i t.task.j ≡ true) × (has_task op ready.counts t.task.kind t.task.term t.task.i t.task.j t.task.k ≡ true)
  parts_own = and_parts (is_work_block op ready.counts t.task.i t.task.j) (has_task op ready.counts t.task.kind t.task.term t.task.i t.task.j t.task.k) ready.exists

  pub block_in : (i j : ℕ) → is_work_block op ready.counts i j ≡ true → (i < row_count) × (j < col_count)
  block_in i j is =
      let outer = and_parts (nat_lt i (parts_of ready.counts op.work.rows) && nat_lt j (parts_of ready.counts op.work.cols)) (not (is_zero op.work.structure i j)) is in
      let inner = and_parts (nat_lt i (parts_of ready.counts op.work.rows)) (nat_lt j (parts_of ready.counts op.work.cols)) outer.0 in (
        rw (ready.counts_are op.work.rows operand.rows) at (ltb-true i (parts_of ready.counts op.work.rows) inner.0),
        rw (ready.counts_are op.work.cols operand.cols) at (ltb-true j (parts_of ready.counts op.work.cols) inner.1),
      )

  pub own_in : (t.task.i < row_count) × (t.task.j < col_count)
  own_in = block_in t.task.i t.task.j parts_own.0

  pub own_sizes : (g.rows ≡ part_length (ready.lengths op.work.rows) t.b t.task.i) × (g.cols ≡ part_length (ready.lengths op.work.cols) t.b t.task.j)
  own_sizes =
      let sizes = ready.work_parts t.task.i t.task.j own_in.0 own_in.1 in
      (ap (λ (x : Grid). x.rows) ready.block ∙ sizes.0, ap (λ (x : Grid). x.cols) ready.block ∙ sizes.1)

  -- the block has at most b columns
  pub own_few : g.cols ≤ t.b
  own_few = let e : g.cols ≡ min t.b (ready.lengths op.work.cols - t.task.j * t.b) = own_sizes.1 in omega (arith, e)

  -- it tests no pivots, and where it solves, its form does
  pub never_pivots : t.task.kind ≡ kinds.Pivots → ⊥
  never_pivots kind = false≢true (rw kind at parts_own.1)

  pub solves_something : t.task.kind ≡ kinds.Solve → op.form ≡ Assign → ⊥
  solves_something kind form = false≢true (rw form at (and_parts (t.task.term == 0 && t.task.k == 0) (has_solve op.form) (rw kind at parts_own.1)).1)

  -- how many blocks it reads
  pub read_count : (gs : List Grid) → grids_of t ≡ gs → length t.reads.now ≡ length gs
  read_count gs e = sym (length-map t.reads.now (nth_grid t.store)) ∙ ap (λ (l : List Grid). length l) e

  -- block (i, j) of W is square where its structure asks for it
  pub work_square : (i j : ℕ) → i < row_count → j < col_count → block_structure op.work.structure i j ≢ General → (work i j).rows ≡ (work i j).cols
  work_square i j i_in j_in ne = go (cases_eq i j)
    where
      go : (i ≡ j) ⊎ (i ≢ j) → (work i j).rows ≡ (work i j).cols
      go (inl same) =
          let q : (i == j) ≡ true = grind (arith, nat_tests) in
          let dims : op.work.rows ≡ op.work.cols = operand.square (rw q at ne) in
          let h = ready.work_parts i j i_in j_in in
          h.0 ∙ ap₂ (λ (d p : ℕ). part_length (ready.lengths d) t.b p) dims same ∙ sym h.1
      go (inr apart) = let q : (i == j) ≡ false = grind (arith, nat_tests) in absurd ((rw q at ne) refl)

  -- a block that it reads holds residues
  pub read_residues : (at : ℕ) → at < length t.reads.now → AreResidues t.m (nth_grid (grids_of t) at)
  read_residues at below =
      rw (get_or-map (nth_grid t.store) t.reads.now at 0 no_grid below)
      (AreResidues-nth t.m t.store (get_or t.reads.now at 0) ready.stored.residues)

-- a part begins within its range
pub part_begins : (n b p : ℕ) → 0 < b → p < part_count n b → p * b < n
part_begins n b p pos below =
    let past : suc p * b ≤ part_count n b * b = mul-le-mul_right {m = suc p} {n = part_count n b} b (omega arith) in
    let whole : part_count n b * b ≤ n + b - 1 = div-mul-le_self (n + b - 1) b in
    omega arith

-- and ends there
pub part_ends : (n b p : ℕ) → 0 < b → p < part_count n b → p * b + part_length n b p ≤ n
part_ends n b p pos below = let begins : p * b < n = part_begins n b p pos below in omega arith

-- ---- blocks of W

module _ (m : ℕ) (s : Structure) (g : Grid) (o : Oper) (part : o.part ≡ g) (structure : o.structure ≡ s) (square : s ≢ General → g.rows ≡ g.cols) (residues : AreResidues m o.part) where
  own_oper : IsOper o
  own_oper ne = rw part (square (rw structure at ne))

  -- a block that is read through a structure
  pub block-is_read : o.primed ≡ false → IsRead m g.rows g.cols (view s (entry g)) o
  block-is_read straight = record {
    table_is = rw (part, structure, straight) refl;
    rows_is = rw (part, straight) refl;
    cols_is = rw (part, straight) refl;
    oper = own_oper;
    residues = residues;
  }

  -- the other way round
  pub turned-is_read : o.primed ≡ true → IsRead m g.cols g.rows (λ i j. view s (entry g) j i) o
  turned-is_read turned = record {
    table_is = rw (part, structure, turned) refl;
    rows_is = rw (part, turned) refl;
    cols_is = rw (part, turned) refl;
    oper = own_oper;
    residues = residues;
  }
