-- The solves with the diagonal blocks of triangular factors, as their tasks read them.
use Rattle.std.proofs.Common.{◌≡◌, ◌≢◌, ℕ, ◌+◌, ◌*◌, ◌<◌, ◌≤◌, ◌⊎◌, inl, inr, Bool, true, false, List, [], ◌∷◌, length, refl, sym, ◌∙◌, ap, arith}
use Rattle.std.specs.Prelude.{◌==◌}
use Rattle.std.proofs.lemmas.Bool.{cases_Bool, cases_eq, false≢true}
use Rattle.std.proofs.lemmas.Bool.Decides.{nat_tests}
use Rattle.residue_sums.specs.Sums.{part_count, part_length}
use Rattle.residue_sums.specs.Tables.{Table}
use Rattle.residue_sums.specs.Grids.{Grid, AreResidues}
use Rattle.structure_rules.specs.declared.Structure.{Structure}
use Rattle.structure_rules.specs.declared.Structure.TheVariants.{General, Lower, UnitLower, Upper, UnitUpper, Diagonal, Symmetric}
use Rattle.structure_rules.specs.Structures.{IsTriangular, IsWorkStructure}
use Rattle.operation_spec.specs.declared.operation.Factor.{Factor}
use Rattle.operation_spec.specs.declared.operation.Form.{Form}
use Rattle.operation_spec.specs.declared.operation.Form.TheVariants.{Left, Right, Sylvester}
use Rattle.operation_spec.specs.declared.task.Kind.TheVariants as kinds
use Rattle.task_graph.specs.Factors.{known}
use Rattle.matrix_parts.specs.declared.oper.Oper.{Oper}
use Rattle.matrix_parts.specs.Opers.{op_table}
use Rattle.matrix_parts.specs.Rects.{IsBlockOf}
use Rattle.operand_lines.proofs.PartResidues.{AreResidues-by_place}
use Rattle.equation.proofs.AssignedGrids.{HasResidues-entry}
use Rattle.equation.proofs.FactorSizes.{left_known, right_known, sylvester_knowns}
use Rattle.equation.proofs.ValidForms.{IsTriangleOn, left-on, right-on, sylvester-on, work-valid}
use Rattle.equation.specs.Jobs.{nth_grid}
use Rattle.equation.specs.Kernels.{IsSolvedLeft, IsSolvedRight, IsSolvedSylvester}
use Rattle.kernel_lib.specs.Conditions.{IsUnitTriangle, HasInverses, HasInversesOfPairs}
use Rattle.flash_blocks.specs.Blocks.{Blocks}
use Rattle.block_tasks.specs.Effects.{block_structure, factor_block, solve_effect, IsEffect}
use Rattle.block_kernels.specs.declared.block_task.BlockTask.{BlockTask}
use Rattle.block_kernels.specs.BlockOpers.{IsBlockOper}
use Rattle.block_tasks.specs.Inverses.{is_unit_triangle, HasPivots, HasRowInverses, HasPairInverses}
use Rattle.block_kernels.specs.ReadGrids.{factor_grid, list_grids, solve_grids}
use Rattle.block_kernels.specs.Ready.{IsReady, HasListPart, grids_of}
use Rattle.block_kernels.proofs.TaskBlocks.{IsRead, triangle_dims, factor-is_read, own_in, own_sizes, work_square, read_count, read_residues, part_ends}

-- ---- structures

unit_triangle : (s : Structure) → is_unit_triangle s ≡ true → IsUnitTriangle s
unit_triangle UnitLower h = inl refl
unit_triangle UnitUpper h = inr refl
unit_triangle General h = absurd (false≢true h)
unit_triangle Lower h = absurd (false≢true h)
unit_triangle Upper h = absurd (false≢true h)
unit_triangle Diagonal h = absurd (false≢true h)
unit_triangle Symmetric h = absurd (false≢true h)

own_structure : (s : Structure) (i : ℕ) → block_structure s i i ≡ s
own_structure s i = let q : (i == i) ≡ true = grind (arith, nat_tests) in rw q refl

block_work : (s : Structure) (i j : ℕ) → IsWorkStructure s → IsWorkStructure (block_structure s i j)
block_work s i j work = elim (cases_eq i j) [
  | inl same ↦ (let q : (i == j) ≡ true = grind (arith, nat_tests) in rw q work)
  | inr apart ↦ (let q : (i == j) ≡ false = grind (arith, nat_tests) in rw q tt)
]

-- ---- inverses, out of the list

-- a block of a grid of residues
residues-block : (m row col n k : ℕ) (whole block : Grid) → 0 < m → AreResidues m whole → IsBlockOf whole row col n k block → AreResidues m block
residues-block m row col n k whole block pos residues is =
    AreResidues-by_place m block is.full (λ i j row_in col_in.
    rw (is.entries i j (rw is.rows at row_in) (rw is.cols at col_in)) (HasResidues-entry m whole pos residues (row + i) (col + j)))

HasInverses-block : (m first n total : ℕ) (a table : Table) (list inverses : Grid) → 0 < m → a ≡ table → AreResidues m list → HasRowInverses m first n total table list
    → IsBlockOf list 0 first 1 n inverses → HasInverses m n a inverses
HasInverses-block m first n total a table list inverses pos same residues have is = record {
  one_row = is.rows;
  cols = is.cols;
  residues = residues-block m 0 first 1 n list inverses pos residues is;
  inverts = λ i below. rw (same, is.entries 0 i (omega arith) below) (have.inverts i below);
}

HasInversesOfPairs-block : (m : ℕ) (negative : Bool) (top left rows cols : ℕ) (g : Grid) (a b first second : Table) (list inverses : Grid) → 0 < m → a ≡ first → b ≡ second → AreResidues m list
    → HasPairInverses m negative top left g rows cols first second list → IsBlockOf list top left g.rows g.cols inverses → HasInversesOfPairs m g.rows g.cols negative a b inverses
HasInversesOfPairs-block m negative top left rows cols g a b first second list inverses pos same_first same_second residues have is = record {
  same_rows = is.rows;
  same_cols = is.cols;
  residues = residues-block m top left g.rows g.cols list inverses pos residues is;
  inverts = λ i j row col. rw (same_first, same_second, is.entries i j row col) (have.inverts i j row col);
}

-- ---- solves by tables that are the same

pub solved_left-same : (m : ℕ) (s : Structure) (a c : Table) (old new : Grid) → a ≡ c → IsSolvedLeft m s a old new → IsSolvedLeft m s c old new
solved_left-same m s a c old new same is = rw (← same) is

pub solved_right-same : (m : ℕ) (s : Structure) (a c : Table) (old new : Grid) → a ≡ c → IsSolvedRight m s a old new → IsSolvedRight m s c old new
solved_right-same m s a c old new same is = rw (← same) is

solved_both-same : (m : ℕ) (negative : Bool) (a c b d : Table) (old new : Grid) → a ≡ c → b ≡ d → IsSolvedSylvester m negative a b old new → IsSolvedSylvester m negative c d old new
solved_both-same m negative a c b d old new firsts seconds is = rw (← firsts, ← seconds) is

-- ---- the tasks

module _ (t : BlockTask) (knowns : ℕ → Blocks) (work : Blocks) (g : Grid) (ready : IsReady t knowns work g) (kind : t.task.kind ≡ kinds.Solve) where
  abbrev reads_for : Form → List Grid
  reads_for form = solve_grids t.op.now knowns work ready.list form t.task.i t.task.j

  pub reads_solve : grids_of t ≡ reads_for t.op.now.form
  reads_solve = rw kind at ready.reads

  pub pivots_are : HasPivots t.m t.b t.op.now ready.lengths knowns work ready.list t.op.now.form t.task.i t.task.j
  pivots_are = rw kind at ready.pivots

  pub effect_is : (new : Grid) → solve_effect t.m t.op.now knowns work t.op.now.form t.task.i t.task.j new → IsEffect t.m t.op.now knowns work t.task new
  effect_is new is = rw kind is

  -- the structure that is written
  pub inside_work : IsWorkStructure (block_structure t.op.now.work.structure t.task.i t.task.j)
  inside_work = block_work t.op.now.work.structure t.task.i t.task.j (work-valid t.op.now ready.has_knowns.valid)

  pub inside_square : block_structure t.op.now.work.structure t.task.i t.task.j ≢ General → g.rows ≡ g.cols
  inside_square ne = rw ready.block (work_square t knowns work g ready t.task.i t.task.j (own_in t knowns work g ready).0 (own_in t knowns work g ready).1 ne)

  -- ---- one triangle

  -- with its list, where it has one: the block begins at place d of a dimension
  module _ (f : Factor) (d n total : ℕ) (table : Table) (reads : grids_of t ≡ factor_grid t.op.now knowns f d d ∷ list_grids (known t.op.now f.known).structure ready.list)
      (pivots : (is_unit_triangle (known t.op.now f.known).structure ≡ true) ⊎ HasRowInverses t.m (d * t.b) n total table ready.list)
      (ends : d * t.b + n ≤ total) where
    abbrev s : Structure
    s = (known t.op.now f.known).structure

    listed : is_unit_triangle s ≡ false → (grids_of t ≡ factor_grid t.op.now knowns f d d ∷ ready.list ∷ []) × HasRowInverses t.m (d * t.b) n total table ready.list
    listed e = (rw e at reads, elim pivots [ inl unit ↦ absurd (false≢true (sym e ∙ unit)) | inr have ↦ have ])

    first_there : 0 < length t.reads.now
    first_there = omega (arith, read_count t knowns work g ready (factor_grid t.op.now knowns f d d ∷ list_grids s ready.list) reads)

    list_there : (x : Structure) → x ≡ block_structure s d d → IsUnitTriangle x ⊎ HasListPart t 1 0 (d * t.b) 1 n
    list_there x is = elim (cases_Bool (is_unit_triangle s)) [
      | inl unit ↦ inl (rw (is, own_structure s d) (unit_triangle s unit))
      | inr none ↦
          let h = listed none in
          let at : nth_grid (grids_of t) 1 ≡ ready.list = ap (λ (gs : List Grid). nth_grid gs 1) h.0 in
          inr (record {
            read = omega (arith, read_count t knowns work g ready (factor_grid t.op.now knowns f d d ∷ ready.list ∷ []) h.0);
            rows_in = rw at (omega (arith, h.1.rows));
            cols_in = rw at (omega (arith, h.1.cols, ends));
          })
    ]

    inverses_there : 0 < t.m → (x : Structure) → x ≡ block_structure s d d → (a : Table) → a ≡ table → (inverses : Grid)
        → IsUnitTriangle x ⊎ IsBlockOf (nth_grid (grids_of t) 1) 0 (d * t.b) 1 n inverses → IsUnitTriangle x ⊎ HasInverses t.m n a inverses
    inverses_there pos x is a same inverses (inl unit) = inl unit
    inverses_there pos x is a same inverses (inr block) = elim (cases_Bool (is_unit_triangle s)) [
      | inl unit ↦ inl (rw (is, own_structure s d) (unit_triangle s unit))
      | inr none ↦
          let h = listed none in
          let at : nth_grid (grids_of t) 1 ≡ ready.list = ap (λ (gs : List Grid). nth_grid gs 1) h.0 in
          let count : length t.reads.now ≡ 2 = read_count t knowns work g ready (factor_grid t.op.now knowns f d d ∷ ready.list ∷ []) h.0 in
          inr (HasInverses-block t.m (d * t.b) n total a table ready.list inverses pos same (rw at at (read_residues t knowns work g ready 1 (omega arith))) h.1 (rw at at block))
    ]

  -- on W's rows, or on its columns
  module _ (f : Factor) (dim : ℕ) (below : f.known < length t.op.now.knowns) (on : IsTriangleOn t.op.now dim f) (d : ℕ) (d_in : d < part_count (ready.lengths dim) t.b)
      (read : nth_grid (grids_of t) 0 ≡ factor_grid t.op.now knowns f d d) (o : Oper) (is : IsBlockOper (known t.op.now f.known).structure f.primed d d (nth_grid (grids_of t) 0) o)
      (residues : AreResidues t.m o.part) where
    triangle_read : IsRead t.m (part_length (ready.lengths dim) t.b d) (part_length (ready.lengths dim) t.b d) (factor_block t.op.now knowns f d d) o
    triangle_read =
        let dims = triangle_dims t.op.now ready.has_knowns.valid dim f below on in
        factor-is_read t.b t.m t.op.now ready.lengths knowns ready.has_knowns f below d d dim dim dims.0 dims.1 d_in d_in (nth_grid (grids_of t) 0) o read is residues

    triangle_structure : IsTriangular o.structure
    triangle_structure =
        let triangular : IsTriangular (known t.op.now f.known).structure = on.triangular in
        rw (is.structure, own_structure (known t.op.now f.known).structure d) triangular

  -- ---- op(T) * X

  module _ (f : Factor) (form : t.op.now.form ≡ Left f) where
    pub left_known_is : f.known < length t.op.now.knowns
    left_known_is = left_known t.op.now ready.has_knowns.valid f form

    left_reads : grids_of t ≡ factor_grid t.op.now knowns f t.task.i t.task.i ∷ list_grids (known t.op.now f.known).structure ready.list
    left_reads = rw form at reads_solve

    left_pivots : (is_unit_triangle (known t.op.now f.known).structure ≡ true)
        ⊎ HasRowInverses t.m (t.task.i * t.b) g.rows (ready.lengths t.op.now.work.rows) (factor_block t.op.now knowns f t.task.i t.task.i) ready.list
    left_pivots = rw ready.block (rw form at pivots_are)

    left_ends : t.task.i * t.b + g.rows ≤ ready.lengths t.op.now.work.rows
    left_ends = rw (own_sizes t knowns work g ready).0 (part_ends (ready.lengths t.op.now.work.rows) t.b t.task.i ready.has_knowns.positive (own_in t knowns work g ready).0)

    pub left_first : 0 < length t.reads.now
    left_first = first_there f t.task.i g.rows (ready.lengths t.op.now.work.rows) (factor_block t.op.now knowns f t.task.i t.task.i) left_reads left_pivots left_ends

    module _ (o : Oper) (is : IsBlockOper (known t.op.now f.known).structure f.primed t.task.i t.task.i (nth_grid (grids_of t) 0) o) (residues : AreResidues t.m o.part) where
      pub left_list : IsUnitTriangle o.structure ⊎ HasListPart t 1 0 (t.task.i * t.b) 1 g.rows
      left_list = list_there f t.task.i g.rows (ready.lengths t.op.now.work.rows) (factor_block t.op.now knowns f t.task.i t.task.i) left_reads left_pivots left_ends o.structure is.structure

      pub left_read : IsRead t.m g.rows g.rows (factor_block t.op.now knowns f t.task.i t.task.i) o
      left_read = rw (own_sizes t knowns work g ready).0
          (triangle_read f t.op.now.work.rows left_known_is (left-on t.op.now ready.has_knowns.valid f form) t.task.i (own_in t knowns work g ready).0
          (ap (λ (gs : List Grid). nth_grid gs 0) left_reads) o is residues)

      pub left_structure : IsTriangular o.structure
      left_structure = triangle_structure f t.op.now.work.rows left_known_is (left-on t.op.now ready.has_knowns.valid f form) t.task.i (own_in t knowns work g ready).0
          (ap (λ (gs : List Grid). nth_grid gs 0) left_reads) o is residues

      pub left_inverses : 0 < t.m → (inverses : Grid) → IsUnitTriangle o.structure ⊎ IsBlockOf (nth_grid (grids_of t) 1) 0 (t.task.i * t.b) 1 g.rows inverses
          → IsUnitTriangle o.structure ⊎ HasInverses t.m g.rows (op_table o) inverses
      left_inverses pos inverses = inverses_there f t.task.i g.rows (ready.lengths t.op.now.work.rows) (factor_block t.op.now knowns f t.task.i t.task.i) left_reads left_pivots left_ends
          pos o.structure is.structure (op_table o) left_read.table_is inverses

      pub left_done : (inside : Structure) (new : Grid) → inside ≡ block_structure t.op.now.work.structure t.task.i t.task.j → IsSolvedLeft t.m inside (op_table o) g new
          → IsEffect t.m t.op.now knowns work t.task new
      left_done inside new inside_is solved = effect_is new (rw form (solved_left-same t.m _ (op_table o) _ (work t.task.i t.task.j) new left_read.table_is (rw (inside_is, ready.block) at solved)))

  -- ---- X * op(U)

  module _ (f : Factor) (form : t.op.now.form ≡ Right f) where
    pub right_known_is : f.known < length t.op.now.knowns
    right_known_is = right_known t.op.now ready.has_knowns.valid f form

    right_reads : grids_of t ≡ factor_grid t.op.now knowns f t.task.j t.task.j ∷ list_grids (known t.op.now f.known).structure ready.list
    right_reads = rw form at reads_solve

    right_pivots : (is_unit_triangle (known t.op.now f.known).structure ≡ true)
        ⊎ HasRowInverses t.m (t.task.j * t.b) g.cols (ready.lengths t.op.now.work.cols) (factor_block t.op.now knowns f t.task.j t.task.j) ready.list
    right_pivots = rw ready.block (rw form at pivots_are)

    right_ends : t.task.j * t.b + g.cols ≤ ready.lengths t.op.now.work.cols
    right_ends = rw (own_sizes t knowns work g ready).1 (part_ends (ready.lengths t.op.now.work.cols) t.b t.task.j ready.has_knowns.positive (own_in t knowns work g ready).1)

    pub right_first : 0 < length t.reads.now
    right_first = first_there f t.task.j g.cols (ready.lengths t.op.now.work.cols) (factor_block t.op.now knowns f t.task.j t.task.j) right_reads right_pivots right_ends

    module _ (o : Oper) (is : IsBlockOper (known t.op.now f.known).structure f.primed t.task.j t.task.j (nth_grid (grids_of t) 0) o) (residues : AreResidues t.m o.part) where
      pub right_list : IsUnitTriangle o.structure ⊎ HasListPart t 1 0 (t.task.j * t.b) 1 g.cols
      right_list = list_there f t.task.j g.cols (ready.lengths t.op.now.work.cols) (factor_block t.op.now knowns f t.task.j t.task.j) right_reads right_pivots right_ends o.structure is.structure

      pub right_read : IsRead t.m g.cols g.cols (factor_block t.op.now knowns f t.task.j t.task.j) o
      right_read = rw (own_sizes t knowns work g ready).1
          (triangle_read f t.op.now.work.cols right_known_is (right-on t.op.now ready.has_knowns.valid f form) t.task.j (own_in t knowns work g ready).1
          (ap (λ (gs : List Grid). nth_grid gs 0) right_reads) o is residues)

      pub right_structure : IsTriangular o.structure
      right_structure = triangle_structure f t.op.now.work.cols right_known_is (right-on t.op.now ready.has_knowns.valid f form) t.task.j (own_in t knowns work g ready).1
          (ap (λ (gs : List Grid). nth_grid gs 0) right_reads) o is residues

      pub right_inverses : 0 < t.m → (inverses : Grid) → IsUnitTriangle o.structure ⊎ IsBlockOf (nth_grid (grids_of t) 1) 0 (t.task.j * t.b) 1 g.cols inverses
          → IsUnitTriangle o.structure ⊎ HasInverses t.m g.cols (op_table o) inverses
      right_inverses pos inverses = inverses_there f t.task.j g.cols (ready.lengths t.op.now.work.cols) (factor_block t.op.now knowns f t.task.j t.task.j) right_reads right_pivots right_ends
          pos o.structure is.structure (op_table o) right_read.table_is inverses

      pub right_done : (inside : Structure) (new : Grid) → inside ≡ block_structure t.op.now.work.structure t.task.i t.task.j → IsSolvedRight t.m inside (op_table o) g new
          → IsEffect t.m t.op.now knowns work t.task new
      right_done inside new inside_is solved = effect_is new (rw form (solved_right-same t.m _ (op_table o) _ (work t.task.i t.task.j) new right_read.table_is (rw (inside_is, ready.block) at solved)))

  -- ---- op(T) * X + X * op(U)

  module _ (f h : Factor) (negative : Bool) (form : t.op.now.form ≡ Sylvester f h negative) where
    pub both_known : (f.known < length t.op.now.knowns) × (h.known < length t.op.now.knowns)
    both_known = sylvester_knowns t.op.now ready.has_knowns.valid f h negative form

    both_reads : grids_of t ≡ factor_grid t.op.now knowns f t.task.i t.task.i ∷ factor_grid t.op.now knowns h t.task.j t.task.j ∷ ready.list ∷ []
    both_reads = rw form at reads_solve

    both_pivots : HasPairInverses t.m negative (t.task.i * t.b) (t.task.j * t.b) g (ready.lengths t.op.now.work.rows) (ready.lengths t.op.now.work.cols)
        (factor_block t.op.now knowns f t.task.i t.task.i) (factor_block t.op.now knowns h t.task.j t.task.j) ready.list
    both_pivots = rw ready.block (rw form at pivots_are)

    pub both_count : length t.reads.now ≡ 3
    both_count = read_count t knowns work g ready (factor_grid t.op.now knowns f t.task.i t.task.i ∷ factor_grid t.op.now knowns h t.task.j t.task.j ∷ ready.list ∷ []) both_reads

    list_is : nth_grid (grids_of t) 2 ≡ ready.list
    list_is = ap (λ (gs : List Grid). nth_grid gs 2) both_reads

    pub both_list : HasListPart t 2 (t.task.i * t.b) (t.task.j * t.b) g.rows g.cols
    both_list =
        let sizes = own_sizes t knowns work g ready in
        let rows : t.task.i * t.b + g.rows ≤ ready.lengths t.op.now.work.rows
        = rw sizes.0 (part_ends (ready.lengths t.op.now.work.rows) t.b t.task.i ready.has_knowns.positive (own_in t knowns work g ready).0) in
        let cols : t.task.j * t.b + g.cols ≤ ready.lengths t.op.now.work.cols
        = rw sizes.1 (part_ends (ready.lengths t.op.now.work.cols) t.b t.task.j ready.has_knowns.positive (own_in t knowns work g ready).1) in
        record {
          read = omega (arith, both_count);
          rows_in = rw list_is (omega (arith, rows, both_pivots.rows_are));
          cols_in = rw list_is (omega (arith, cols, both_pivots.cols_are));
        }

    module _ (a b : Oper) (is_a : IsBlockOper (known t.op.now f.known).structure f.primed t.task.i t.task.i (nth_grid (grids_of t) 0) a) (residues_a : AreResidues t.m a.part)
        (is_b : IsBlockOper (known t.op.now h.known).structure h.primed t.task.j t.task.j (nth_grid (grids_of t) 1) b) (residues_b : AreResidues t.m b.part) where
      second_is : nth_grid (grids_of t) 1 ≡ factor_grid t.op.now knowns h t.task.j t.task.j
      second_is = ap (λ (gs : List Grid). nth_grid gs 1) both_reads

      pub first_read : IsRead t.m g.rows g.rows (factor_block t.op.now knowns f t.task.i t.task.i) a
      first_read = rw (own_sizes t knowns work g ready).0
          (triangle_read f t.op.now.work.rows both_known.0 (sylvester-on t.op.now ready.has_knowns.valid f h negative form).0 t.task.i (own_in t knowns work g ready).0
          (ap (λ (gs : List Grid). nth_grid gs 0) both_reads) a is_a residues_a)

      pub second_read : IsRead t.m g.cols g.cols (factor_block t.op.now knowns h t.task.j t.task.j) b
      second_read =
          let on = (sylvester-on t.op.now ready.has_knowns.valid f h negative form).1 in
          let dims = triangle_dims t.op.now ready.has_knowns.valid t.op.now.work.cols h both_known.1 on in
          rw (own_sizes t knowns work g ready).1
          (factor-is_read t.b t.m t.op.now ready.lengths knowns ready.has_knowns h both_known.1 t.task.j t.task.j t.op.now.work.cols t.op.now.work.cols dims.0 dims.1
          (own_in t knowns work g ready).1 (own_in t knowns work g ready).1 (nth_grid (grids_of t) 1) b second_is is_b residues_b)

      pub both_triangular : IsTriangular a.structure × IsTriangular b.structure
      both_triangular =
          let on = sylvester-on t.op.now ready.has_knowns.valid f h negative form in
          let first : IsTriangular (known t.op.now f.known).structure = on.0.triangular in
          let second : IsTriangular (known t.op.now h.known).structure = on.1.triangular in
          (rw (is_a.structure, own_structure (known t.op.now f.known).structure t.task.i) first, rw (is_b.structure, own_structure (known t.op.now h.known).structure t.task.j) second)

      pub both_inverses : 0 < t.m → (inverses : Grid) → IsBlockOf (nth_grid (grids_of t) 2) (t.task.i * t.b) (t.task.j * t.b) g.rows g.cols inverses
          → HasInversesOfPairs t.m g.rows g.cols negative (op_table a) (op_table b) inverses
      both_inverses pos inverses block =
          HasInversesOfPairs-block t.m negative (t.task.i * t.b) (t.task.j * t.b) (ready.lengths t.op.now.work.rows) (ready.lengths t.op.now.work.cols) g (op_table a) (op_table b) _ _
          ready.list inverses pos first_read.table_is second_read.table_is (rw list_is at (read_residues t knowns work g ready 2 (omega (arith, both_count)))) both_pivots (rw list_is at block)

      pub both_done : (new : Grid) → IsSolvedSylvester t.m negative (op_table a) (op_table b) g new → IsEffect t.m t.op.now knowns work t.task new
      both_done new solved = effect_is new (rw form
          (solved_both-same t.m negative (op_table a) _ (op_table b) _ (work t.task.i t.task.j) new first_read.table_is second_read.table_is (rw ready.block at solved)))
