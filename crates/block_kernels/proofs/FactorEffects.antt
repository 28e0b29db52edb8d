-- The solves of the forms that find factors, as their tasks read them, and the bad pivots that they meet.
use Rattle.std.proofs.Common.{◌≡◌, ℕ, ◌+◌, ◌*◌, ◌^◌, ◌<◌, ◌≤◌, true, false, not, List, [], ◌∷◌, length, sym, ◌∙◌, ap, ap₂, subst, arith}
use Rattle.std.specs.Prelude.{◌==◌, ◌&&◌, nat_lt, min}
use Rattle.std.proofs.lemmas.Bool.{and_parts}
use Rattle.std.proofs.lemmas.Bool.Decides.{nat_tests}
use Rattle.residue_sums.specs.Residues.{IsUnit}
use Rattle.residue_sums.specs.Sums.{part_count, part_length}
use Rattle.residue_sums.specs.Tables.{Table}
use Rattle.residue_sums.specs.Grids.{Grid, AreResidues, entry}
use Rattle.residue_sums.proofs.Parts.{index_below}
use Rattle.structure_rules.specs.declared.Structure.{Structure}
use Rattle.structure_rules.specs.declared.Structure.TheVariants.{General, Lower, UnitLower, Upper}
use Rattle.structure_rules.specs.Structures.{view, is_zero}
use Rattle.operation_spec.specs.declared.operation.Form.TheVariants.{Lu, Ldl}
use Rattle.operation_spec.specs.declared.task.Kind.TheVariants as kinds
use Rattle.task_graph.specs.Tasks.{parts_of}
use Rattle.matrix_parts.specs.declared.oper.Oper.{Oper}
use Rattle.matrix_parts.specs.Opers.{op_rows, op_table}
use Rattle.equation.proofs.ValidForms.{lu-general, ldl-lower}
use Rattle.equation.specs.declared.job.Place.{Place}
use Rattle.equation.specs.Jobs.{nth_grid}
use Rattle.equation.specs.Kernels.{IsFactoredLu, IsFactoredLdl, IsSolvedLeft, IsSolvedRight, IsSolvedRightLdl}
use Rattle.equation.specs.Pivots.{IsBadForLu, IsBadForLdl}
use Rattle.kernel_lib.specs.Conditions.{HasInverses}
use Rattle.flash_blocks.specs.Blocks.{Blocks}
use Rattle.block_tasks.specs.Effects.{lu_effect, ldl_effect, IsBadTask, IsEffect}
use Rattle.block_kernels.specs.declared.block_task.BlockTask.{BlockTask}
use Rattle.block_tasks.specs.Inverses.{HasUnits}
use Rattle.block_kernels.specs.Outcomes.{HasNoBadPivot}
use Rattle.block_kernels.specs.Ready.{IsReady, grids_of}
use Rattle.block_kernels.proofs.TaskBlocks.{IsRead, block-is_read, row_count, col_count, own_in, own_sizes, parts_own, read_count, work_operand}
use Rattle.block_kernels.proofs.SolveEffects.{reads_solve, pivots_are, effect_is, solved_left-same, solved_right-same}

-- inverses of the pivots of a table, as one row that another operand asks for
pub inverses_again : (m r n : ℕ) (a table : Table) (xs : List ℕ) (inverses : Grid) → r ≡ n → a ≡ table → inverses ≡ record { rows = 1; cols = n; entries = xs }
    → HasInverses m r a (record { rows = 1; cols = r; entries = xs }) → HasInverses m n table inverses
inverses_again m r n a table xs inverses rows same is have = rw (is, ← rows, ← same) have

solved_ldl-same : (m : ℕ) (f h : Grid) (old new : Grid) → f ≡ h → IsSolvedRightLdl m (entry f) old new → IsSolvedRightLdl m (entry h) old new
solved_ldl-same m f h old new same is = rw (← same) is

module _ (t : BlockTask) (knowns : ℕ → Blocks) (work : Blocks) (g : Grid) (ready : IsReady t knowns work g) (kind : t.task.kind ≡ kinds.Solve)
    (dims : t.op.now.work.rows ≡ t.op.now.work.cols) where
  same_length : (p : ℕ) → part_length (ready.lengths t.op.now.work.rows) t.b p ≡ part_length (ready.lengths t.op.now.work.cols) t.b p
  same_length p = ap (λ (d : ℕ). part_length (ready.lengths d) t.b p) dims

  same_count : row_count t knowns work g ready ≡ col_count t knowns work g ready
  same_count = ap (λ (d : ℕ). part_count (ready.lengths d) t.b) dims

  own_square : t.task.i ≡ t.task.j → g.rows ≡ g.cols
  own_square same =
      let sizes = own_sizes t knowns work g ready in
      sizes.0 ∙ ap (λ (p : ℕ). part_length (ready.lengths t.op.now.work.rows) t.b p) same ∙ same_length t.task.j ∙ sym sizes.1

  -- a place of a diagonal block, in the whole matrix
  place_fits : t.task.i ≡ t.task.j → (q : ℕ) → q < g.rows → (t.task.i * t.b + q < 2 ^ 32) × (t.task.j * t.b + q < 2 ^ 32)
  place_fits same q below =
      let at : t.task.i * t.b + q < ready.lengths t.op.now.work.rows
      = index_below (ready.lengths t.op.now.work.rows) t.b t.task.i q (rw (own_sizes t knowns work g ready).0 at below) in
      let few : ready.lengths t.op.now.work.rows < 2 ^ 32
      = ready.has_knowns.few in
      let fits : t.task.i * t.b + q < 2 ^ 32 = omega (arith, at, few) in
      (fits, rw same at fits)

  -- the diagonal block of its row, and of its column
  row_block : ((work t.task.i t.task.i).rows ≡ g.rows) × ((work t.task.i t.task.i).cols ≡ g.rows)
  row_block =
      let own = (own_in t knowns work g ready).0 in
      let h = ready.work_parts t.task.i t.task.i own (rw (← same_count) own) in
      let rows = (own_sizes t knowns work g ready).0 in
      (h.0 ∙ sym rows, h.1 ∙ sym (same_length t.task.i) ∙ sym rows)

  col_block : ((work t.task.j t.task.j).rows ≡ g.cols) × ((work t.task.j t.task.j).cols ≡ g.cols)
  col_block =
      let own = (own_in t knowns work g ready).1 in
      let h = ready.work_parts t.task.j t.task.j (rw same_count own) own in
      let cols = (own_sizes t knowns work g ready).1 in
      (h.0 ∙ same_length t.task.j ∙ sym cols, h.1 ∙ sym cols)

  row_square : (work t.task.i t.task.i).rows ≡ (work t.task.i t.task.i).cols
  row_square = row_block.0 ∙ sym row_block.1

  col_square : (work t.task.j t.task.j).rows ≡ (work t.task.j t.task.j).cols
  col_square = col_block.0 ∙ sym col_block.1

  -- an operand on it
  row_read : (s : Structure) (o : Oper) → o.part ≡ work t.task.i t.task.i → o.structure ≡ s → o.primed ≡ false → AreResidues t.m o.part
      → IsRead t.m g.rows g.rows (view s (entry (work t.task.i t.task.i))) o
  row_read s o part structure straight residues =
      let is = block-is_read t.m s (work t.task.i t.task.i) o part structure (λ ne. row_square) residues straight in
      record { table_is = is.table_is; rows_is = is.rows_is ∙ row_block.0; cols_is = is.cols_is ∙ row_block.1; oper = is.oper; residues = is.residues }

  col_read : (s : Structure) (o : Oper) → o.part ≡ work t.task.j t.task.j → o.structure ≡ s → o.primed ≡ false → AreResidues t.m o.part
      → IsRead t.m g.cols g.cols (view s (entry (work t.task.j t.task.j))) o
  col_read s o part structure straight residues =
      let is = block-is_read t.m s (work t.task.j t.task.j) o part structure (λ ne. col_square) residues straight in
      record { table_is = is.table_is; rows_is = is.rows_is ∙ col_block.0; cols_is = is.cols_is ∙ col_block.1; oper = is.oper; residues = is.residues }

-- ---- LU

module _ (t : BlockTask) (knowns : ℕ → Blocks) (work : Blocks) (g : Grid) (ready : IsReady t knowns work g) (kind : t.task.kind ≡ kinds.Solve) (form : t.op.now.form ≡ Lu) where
  lu_dims : t.op.now.work.rows ≡ t.op.now.work.cols
  lu_dims = (lu-general t.op.now ready.has_knowns.valid form).1

  lu_effect_is : (new : Grid) → lu_effect t.m work (nat_lt t.task.i t.task.j) (nat_lt t.task.j t.task.i) t.task.i t.task.j new → IsEffect t.m t.op.now knowns work t.task new
  lu_effect_is new is = effect_is t knowns work g ready kind new (rw form is)

  -- on the diagonal
  module _ (same : t.task.i ≡ t.task.j) where
    pub lu_square : g.rows ≡ g.cols
    lu_square = own_square t knowns work g ready kind lu_dims same

    pub lu_fits : (q : ℕ) → q < g.rows → (t.task.i * t.b + q < 2 ^ 32) × (t.task.j * t.b + q < 2 ^ 32)
    lu_fits = place_fits t knowns work g ready kind lu_dims same

    pub lu_factored : (new : Grid) → IsFactoredLu t.m g new → IsEffect t.m t.op.now knowns work t.task new
    lu_factored new factored =
        let e : nat_lt t.task.i t.task.j ≡ false = grind (arith, nat_tests) in
        let f : nat_lt t.task.j t.task.i ≡ false = grind (arith, nat_tests) in
        lu_effect_is new (rw (e, f) (subst (λ (x : Grid). IsFactoredLu t.m x new) ready.block factored))

    -- no bad pivot of the block is none of the task
    pub lu_none : ((q : ℕ) → q < g.rows → ¬ (IsBadForLu t.m (entry g) q)) → HasNoBadPivot t work
    lu_none none place bad =
        let is = rw (kind, form) at bad in
        none is.2.0 (rw ready.block is.2.2) (rw ready.block is.2.3)

    pub lu_bad : (place : Place) (row col : ℕ) → place.row ≡ t.task.i * t.b + row → place.col ≡ t.task.j * t.b + col → (col ≡ row) × (row < g.rows) × IsBadForLu t.m (entry g) row
        → IsBadTask t.m t.b t.op.now work t.task place
    lu_bad place row col row_is col_is bad = rw (kind, form) (
      same,
      col_is ∙ ap₂ (λ (p q : ℕ). p * t.b + q) (sym same) bad.0 ∙ sym row_is,
      (row, row_is, rw ready.block at bad.1, rw ready.block at bad.2),
    )

  -- right of it
  module _ (above : t.task.i < t.task.j) where
    reads_l : grids_of t ≡ work t.task.i t.task.i ∷ []
    reads_l =
        let e : (t.task.i == t.task.j) ≡ false = grind (arith, nat_tests) in
        let f : min t.task.i t.task.j ≡ t.task.i = omega arith in
        rw (form, e, f) at (reads_solve t knowns work g ready kind)

    pub l_there : 0 < length t.reads.now
    l_there = omega (arith, read_count t knowns work g ready (work t.task.i t.task.i ∷ []) reads_l)

    module _ (o : Oper) (part : o.part ≡ nth_grid (grids_of t) 0) (structure : o.structure ≡ UnitLower) (straight : o.primed ≡ false) (residues : AreResidues t.m o.part) where
      pub l_read : IsRead t.m g.rows g.rows (view UnitLower (entry (work t.task.i t.task.i))) o
      l_read = row_read t knowns work g ready kind lu_dims UnitLower o (part ∙ ap (λ (gs : List Grid). nth_grid gs 0) reads_l) structure straight residues

      pub l_solved : (new : Grid) → IsSolvedLeft t.m General (op_table o) g new → IsEffect t.m t.op.now knowns work t.task new
      l_solved new solved =
          let e : nat_lt t.task.i t.task.j ≡ true = grind (arith, nat_tests) in
          lu_effect_is new (rw e (solved_left-same t.m General (op_table o) _ (work t.task.i t.task.j) new l_read.table_is (rw ready.block at solved)))

  -- below it
  module _ (below : t.task.j < t.task.i) where
    reads_u : grids_of t ≡ work t.task.j t.task.j ∷ []
    reads_u =
        let e : (t.task.i == t.task.j) ≡ false = grind (arith, nat_tests) in
        let f : min t.task.i t.task.j ≡ t.task.j = omega arith in
        rw (form, e, f) at (reads_solve t knowns work g ready kind)

    pub u_there : 0 < length t.reads.now
    u_there = omega (arith, read_count t knowns work g ready (work t.task.j t.task.j ∷ []) reads_u)

    lu_units : HasUnits t.m (work t.task.j t.task.j)
    lu_units = (rw form at (pivots_are t knowns work g ready kind)) below

    module _ (o : Oper) (part : o.part ≡ nth_grid (grids_of t) 0) (structure : o.structure ≡ Upper) (straight : o.primed ≡ false) (residues : AreResidues t.m o.part) where
      pub u_read : IsRead t.m g.cols g.cols (view Upper (entry (work t.task.j t.task.j))) o
      u_read = col_read t knowns work g ready kind lu_dims Upper o (part ∙ ap (λ (gs : List Grid). nth_grid gs 0) reads_u) structure straight residues

      pub u_units : (q : ℕ) → q < op_rows o → IsUnit t.m (op_table o q q)
      u_units q q_in =
          let own : IsUnit t.m (entry (work t.task.j t.task.j) q q) = lu_units q (rw (u_read.rows_is ∙ sym (col_block t knowns work g ready kind lu_dims).0) at q_in) in
          let e : view Upper (entry (work t.task.j t.task.j)) q q ≡ entry (work t.task.j t.task.j) q q = grind (arith, nat_tests) in
          subst (λ (x : ℕ). IsUnit t.m x) (sym (ap (λ (a : Table). a q q) u_read.table_is ∙ e)) own

      pub u_solved : (new : Grid) → IsSolvedRight t.m General (op_table o) g new → IsEffect t.m t.op.now knowns work t.task new
      u_solved new solved =
          let e : nat_lt t.task.i t.task.j ≡ false = grind (arith, nat_tests) in
          let f : nat_lt t.task.j t.task.i ≡ true = grind (arith, nat_tests) in
          lu_effect_is new (rw (e, f) (solved_right-same t.m General (op_table o) _ (work t.task.i t.task.j) new u_read.table_is (rw ready.block at solved)))

-- ---- LDL

module _ (t : BlockTask) (knowns : ℕ → Blocks) (work : Blocks) (g : Grid) (ready : IsReady t knowns work g) (kind : t.task.kind ≡ kinds.Solve) (form : t.op.now.form ≡ Ldl) where
  lower : t.op.now.work.structure ≡ Lower
  lower = ldl-lower t.op.now ready.has_knowns.valid form

  ldl_dims : t.op.now.work.rows ≡ t.op.now.work.cols
  ldl_dims = (work_operand t.op.now ready.has_knowns.valid).square (rw lower (λ e. absurd (cc)))

  ldl_effect_is : (new : Grid) → ldl_effect t.m work (nat_lt t.task.j t.task.i) t.task.i t.task.j new → IsEffect t.m t.op.now knowns work t.task new
  ldl_effect_is new is = effect_is t knowns work g ready kind new (rw form is)

  -- no block stands above the diagonal
  pub ldl_diagonal : t.task.i ≤ t.task.j → t.task.i ≡ t.task.j
  ldl_diagonal not_below =
      let outer = and_parts (nat_lt t.task.i (parts_of ready.counts t.op.now.work.rows) && nat_lt t.task.j (parts_of ready.counts t.op.now.work.cols))
      (not (is_zero t.op.now.work.structure t.task.i t.task.j)) (parts_own t knowns work g ready).0 in
      let test : not (nat_lt t.task.i t.task.j) ≡ true = rw lower at outer.1 in
      grind (arith, nat_tests)

  module _ (same : t.task.i ≡ t.task.j) where
    pub ldl_square : g.rows ≡ g.cols
    ldl_square = own_square t knowns work g ready kind ldl_dims same

    pub ldl_fits : (q : ℕ) → q < g.rows → (t.task.i * t.b + q < 2 ^ 32) × (t.task.j * t.b + q < 2 ^ 32)
    ldl_fits = place_fits t knowns work g ready kind ldl_dims same

    pub ldl_factored : (new : Grid) → IsFactoredLdl t.m g new → IsEffect t.m t.op.now knowns work t.task new
    ldl_factored new factored =
        let e : nat_lt t.task.j t.task.i ≡ false = grind (arith, nat_tests) in
        ldl_effect_is new (rw e (subst (λ (x : Grid). IsFactoredLdl t.m x new) ready.block factored))

    pub ldl_none : ((q : ℕ) → q < g.rows → ¬ (IsBadForLdl t.m (entry g) q)) → HasNoBadPivot t work
    ldl_none none place bad =
        let is = rw (kind, form) at bad in
        none is.2.0 (rw ready.block is.2.2) (rw ready.block is.2.3)

    pub ldl_bad : (place : Place) (row col : ℕ) → place.row ≡ t.task.i * t.b + row → place.col ≡ t.task.j * t.b + col → (col ≡ row) × (row < g.rows) × IsBadForLdl t.m (entry g) row
        → IsBadTask t.m t.b t.op.now work t.task place
    ldl_bad place row col row_is col_is bad = rw (kind, form) (
      same,
      col_is ∙ ap₂ (λ (p q : ℕ). p * t.b + q) (sym same) bad.0 ∙ sym row_is,
      (row, row_is, rw ready.block at bad.1, rw ready.block at bad.2),
    )

  module _ (below : t.task.j < t.task.i) where
    reads_d : grids_of t ≡ work t.task.j t.task.j ∷ []
    reads_d =
        let e : (t.task.i == t.task.j) ≡ false = grind (arith, nat_tests) in
        let f : min t.task.i t.task.j ≡ t.task.j = omega arith in
        rw (form, e, f) at (reads_solve t knowns work g ready kind)

    pub d_there : 0 < length t.reads.now
    d_there = omega (arith, read_count t knowns work g ready (work t.task.j t.task.j ∷ []) reads_d)

    ldl_units : HasUnits t.m (work t.task.j t.task.j)
    ldl_units = (rw form at (pivots_are t knowns work g ready kind)) below

    -- the factored block
    pub d_is : nth_grid (grids_of t) 0 ≡ work t.task.j t.task.j
    d_is = ap (λ (gs : List Grid). nth_grid gs 0) reads_d

    pub d_sizes : ((nth_grid (grids_of t) 0).rows ≡ g.cols) × ((nth_grid (grids_of t) 0).cols ≡ g.cols)
    d_sizes = rw d_is (col_block t knowns work g ready kind ldl_dims)

    module _ (o : Oper) (part : o.part ≡ nth_grid (grids_of t) 0) (structure : o.structure ≡ General) (straight : o.primed ≡ false) (residues : AreResidues t.m o.part) where
      pub d_read : IsRead t.m g.cols g.cols (entry (work t.task.j t.task.j)) o
      d_read = col_read t knowns work g ready kind ldl_dims General o (part ∙ d_is) structure straight residues

      pub d_units : (q : ℕ) → q < op_rows o → IsUnit t.m (op_table o q q)
      d_units q q_in = subst (λ (x : ℕ). IsUnit t.m x) (sym (ap (λ (a : Table). a q q) d_read.table_is))
          (ldl_units q (rw (d_read.rows_is ∙ sym (col_block t knowns work g ready kind ldl_dims).0) at q_in))

    pub d_solved : (f : Grid) → f ≡ nth_grid (grids_of t) 0 → (new : Grid) → IsSolvedRightLdl t.m (entry f) g new → IsEffect t.m t.op.now knowns work t.task new
    d_solved f is new solved =
        let e : nat_lt t.task.j t.task.i ≡ true = grind (arith, nat_tests) in
        ldl_effect_is new (rw e (solved_ldl-same t.m f (work t.task.j t.task.j) (work t.task.i t.task.j) new (is ∙ d_is) (rw ready.block at solved)))
