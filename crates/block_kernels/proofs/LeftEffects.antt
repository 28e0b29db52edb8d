-- The products with a block on the left, as their tasks read them.
use Rattle.std.proofs.Common.{◌≡◌, ℕ, ◌<◌, ◌≤◌, true, false, not, List, [], ◌∷◌, length, refl, sym, ◌∙◌, ap, subst, arith}
use Rattle.std.specs.Prelude.{◌==◌, ◌&&◌, nat_lt, min}
use Rattle.std.proofs.lemmas.Bool.{and_parts, ltb-true, false≢true}
use Rattle.std.proofs.lemmas.Bool.Decides.{nat_tests}
use Rattle.residue_sums.specs.Sums.{part_length}
use Rattle.residue_sums.specs.Tables.{Table, transpose}
use Rattle.residue_sums.specs.Grids.{Grid, AreResidues, entry}
use Rattle.structure_rules.specs.declared.Structure.{Structure}
use Rattle.structure_rules.specs.declared.Structure.TheVariants.{General, Lower, Diagonal}
use Rattle.structure_rules.specs.Structures.{view, is_zero}
use Rattle.operation_spec.specs.declared.operation.Factor.{Factor}
use Rattle.operation_spec.specs.declared.operation.Form.{Form}
use Rattle.operation_spec.specs.declared.operation.Form.TheVariants.{Assign, Left, Right, Sylvester, Lu, Ldl}
use Rattle.operation_spec.specs.declared.task.Kind.TheVariants as kinds
use Rattle.task_graph.specs.Factors.{known}
use Rattle.task_graph.specs.Tasks.{has_left, reads_left, is_inside, is_work_block, parts_of}
use Rattle.matrix_parts.specs.declared.oper.Oper.{Oper}
use Rattle.matrix_parts.specs.Opers.{op_rows, op_cols, op_table, IsOper}
use Rattle.equation.proofs.FactorSizes.{left_known, sylvester_knowns}
use Rattle.equation.proofs.ValidForms.{IsTriangleOn, left-on, sylvester-on, lu-general, ldl-lower}
use Rattle.equation.specs.Jobs.{nth_grid}
use Rattle.equation.specs.Kernels.{IsUpdated, IsUpdatedLdl}
use Rattle.flash_blocks.specs.Blocks.{Blocks}
use Rattle.block_tasks.specs.Effects.{block_structure, factor_block, solution_block, left_effect, IsEffect}
use Rattle.block_kernels.specs.declared.block_task.BlockTask.{BlockTask}
use Rattle.block_kernels.specs.BlockOpers.{IsBlockOper, HasLeft}
use Rattle.block_kernels.specs.ReadGrids.{factor_grid, left_grids}
use Rattle.block_kernels.specs.Ready.{IsReady, grids_of}
use Rattle.block_kernels.proofs.TaskBlocks.{IsRead, CanUpdate, can_update, updated-same, triangle_dims, factor-is_read, block-is_read, turned-is_read, row_count, col_count, block_in, parts_own, own_in, own_sizes, work_operand, work_square}

-- an update by three tables that are the same
updated_ldl-same : (m : ℕ) (s : Structure) (n k : ℕ) (a c d e x y : Table) (old new : Grid) → n ≡ k → a ≡ c → d ≡ e → x ≡ y
    → IsUpdatedLdl m s n a d x old new → IsUpdatedLdl m s k c e y old new
updated_ldl-same m s n k a c d e x y old new sizes firsts middles seconds is = rw (← sizes, ← firsts, ← middles, ← seconds) is

module _ (t : BlockTask) (knowns : ℕ → Blocks) (work : Blocks) (g : Grid) (ready : IsReady t knowns work g) (kind : t.task.kind ≡ kinds.Left) where
  has_it : has_left t.op.now ready.counts t.op.now.form t.task.i t.task.j t.task.k ≡ true
  has_it = (and_parts (t.task.term == 0) (has_left t.op.now ready.counts t.op.now.form t.task.i t.task.j t.task.k) (rw kind at (parts_own t knowns work g ready).1)).1

  -- forms without such a product
  pub left_none : has_left t.op.now ready.counts t.op.now.form t.task.i t.task.j t.task.k ≡ false → ⊥
  left_none e = false≢true (sym e ∙ has_it)

  reads_left_are : grids_of t ≡ left_grids t.op.now knowns work t.op.now.form t.task.i t.task.j t.task.k
  reads_left_are = rw kind at ready.reads

  effect : (new : Grid) → left_effect t.m t.op.now knowns work t.op.now.form t.task.i t.task.j t.task.k new → IsEffect t.m t.op.now knowns work t.task new
  effect new is = rw kind is

  -- ---- op(T) * X

  module _ (f : Factor) (on_left : HasLeft t.op.now.form f) where
    left_triangle : (form : Form) → t.op.now.form ≡ form → HasLeft form f → (f.known < length t.op.now.knowns) × IsTriangleOn t.op.now t.op.now.work.rows f
    left_triangle (Left u) e h = subst (λ (x : Factor). (x.known < length t.op.now.knowns) × IsTriangleOn t.op.now t.op.now.work.rows x) h
        (left_known t.op.now ready.has_knowns.valid u e, left-on t.op.now ready.has_knowns.valid u e)
    left_triangle (Sylvester u v negative) e h = subst (λ (x : Factor). (x.known < length t.op.now.knowns) × IsTriangleOn t.op.now t.op.now.work.rows x) h
        ((sylvester_knowns t.op.now ready.has_knowns.valid u v negative e).0, (sylvester-on t.op.now ready.has_knowns.valid u v negative e).0)
    left_triangle Assign e h = absurd h
    left_triangle (Right u) e h = absurd h
    left_triangle Lu e h = absurd h
    left_triangle Ldl e h = absurd h

    pub left_known_is : f.known < length t.op.now.knowns
    left_known_is = (left_triangle t.op.now.form refl on_left).0

    abbrev pub factor_left_grids : List Grid
    factor_left_grids = factor_grid t.op.now knowns f t.task.i t.task.k ∷ work t.task.k t.task.j ∷ []

    pub reads_factor_left : grids_of t ≡ factor_left_grids
    reads_factor_left = reads_left_are ∙ go t.op.now.form on_left
      where
        go : (form : Form) → HasLeft form f → left_grids t.op.now knowns work form t.task.i t.task.j t.task.k ≡ factor_left_grids
        go (Left u) h = rw h refl
        go (Sylvester u v negative) h = rw h refl
        go Assign h = absurd h
        go (Right u) h = absurd h
        go Lu h = absurd h
        go Ldl h = absurd h

    inner_block : is_work_block t.op.now ready.counts t.task.k t.task.j ≡ true
    inner_block = go t.op.now.form on_left has_it
      where
        of_read : (u : Factor) → reads_left t.op.now ready.counts u t.task.i t.task.j t.task.k ≡ true → is_work_block t.op.now ready.counts t.task.k t.task.j ≡ true
        of_read u h = (and_parts (is_inside t.op.now u t.task.i t.task.k && not (t.task.i == t.task.k)) (is_work_block t.op.now ready.counts t.task.k t.task.j) h).1

        go : (form : Form) → HasLeft form f → has_left t.op.now ready.counts form t.task.i t.task.j t.task.k ≡ true → is_work_block t.op.now ready.counts t.task.k t.task.j ≡ true
        go (Left u) e h = of_read u h
        go (Sylvester u v negative) e h = of_read u h
        go Assign e h = absurd e
        go (Right u) e h = absurd e
        go Lu e h = absurd e
        go Ldl e h = absurd e

    inner_in : (t.task.k < row_count t knowns work g ready) × (t.task.j < col_count t knowns work g ready)
    inner_in = block_in t knowns work g ready t.task.k t.task.j inner_block

    module _ (a b : Oper) (is_a : IsBlockOper (known t.op.now f.known).structure f.primed t.task.i t.task.k (nth_grid (grids_of t) 0) a)
        (residues_a : AreResidues t.m a.part)
        (part_b : b.part ≡ nth_grid (grids_of t) 1) (structure_b : b.structure ≡ block_structure t.op.now.work.structure t.task.k t.task.j) (straight_b : b.primed ≡ false)
        (residues_b : AreResidues t.m b.part) where
      sizes : ((work t.task.k t.task.j).rows ≡ part_length (ready.lengths t.op.now.work.rows) t.b t.task.k)
          × ((work t.task.k t.task.j).cols ≡ part_length (ready.lengths t.op.now.work.cols) t.b t.task.j)
      sizes = ready.work_parts t.task.k t.task.j inner_in.0 inner_in.1

      first_read : IsRead t.m g.rows (work t.task.k t.task.j).rows (factor_block t.op.now knowns f t.task.i t.task.k) a
      first_read =
          let dims = triangle_dims t.op.now ready.has_knowns.valid t.op.now.work.rows f left_known_is (left_triangle t.op.now.form refl on_left).1 in
          rw ((own_sizes t knowns work g ready).0, sizes.0)
          (factor-is_read t.b t.m t.op.now ready.lengths knowns ready.has_knowns f left_known_is t.task.i t.task.k t.op.now.work.rows t.op.now.work.rows dims.0 dims.1
          (own_in t knowns work g ready).0 inner_in.0 (nth_grid (grids_of t) 0) a (ap (λ (gs : List Grid). nth_grid gs 0) reads_factor_left) is_a residues_a)

      second_read : IsRead t.m (work t.task.k t.task.j).rows g.cols (solution_block t.op.now work t.task.k t.task.j) b
      second_read = rw ((own_sizes t knowns work g ready).1 ∙ sym sizes.1)
          (block-is_read t.m (block_structure t.op.now.work.structure t.task.k t.task.j) (work t.task.k t.task.j) b
          (part_b ∙ ap (λ (gs : List Grid). nth_grid gs 1) reads_factor_left) structure_b (work_square t knowns work g ready t.task.k t.task.j inner_in.0 inner_in.1) residues_b straight_b)

      pub factor_left_can : CanUpdate t.m g a b
      factor_left_can = can_update t.m (work t.task.k t.task.j).rows g _ _ a b first_read second_read

      pub factor_left_done : (inside : Structure) (new : Grid) → inside ≡ block_structure t.op.now.work.structure t.task.i t.task.j
          → IsUpdated t.m true inside (op_cols a) (op_table a) (op_table b) g new → IsEffect t.m t.op.now knowns work t.task new
      factor_left_done inside new inside_is updated = effect new (go t.op.now.form on_left)
        where
          named : IsUpdated t.m true (block_structure t.op.now.work.structure t.task.i t.task.j) (work t.task.k t.task.j).rows
              (factor_block t.op.now knowns f t.task.i t.task.k) (solution_block t.op.now work t.task.k t.task.j) (work t.task.i t.task.j) new
          named = updated-same t.m true (block_structure t.op.now.work.structure t.task.i t.task.j) _ _ _ _ _ _ (work t.task.i t.task.j) new
              first_read.cols_is first_read.table_is second_read.table_is (rw (inside_is, ready.block) at updated)

          go : (form : Form) → HasLeft form f → left_effect t.m t.op.now knowns work form t.task.i t.task.j t.task.k new
          go (Left u) h = rw h named
          go (Sylvester u v negative) h = rw h named
          go Assign h = absurd h
          go (Right u) h = absurd h
          go Lu h = absurd h
          go Ldl h = absurd h

  -- ---- L * U

  module _ (form : t.op.now.form ≡ Lu) where
    lu_dims : t.op.now.work.rows ≡ t.op.now.work.cols
    lu_dims = (lu-general t.op.now ready.has_knowns.valid form).1

    pub reads_lu : grids_of t ≡ work t.task.i t.task.k ∷ work t.task.k t.task.j ∷ []
    reads_lu = rw form at reads_left_are

    before : (t.task.k < t.task.i) × (t.task.k < t.task.j)
    before = let h : t.task.k < min t.task.i t.task.j = ltb-true t.task.k (min t.task.i t.task.j) (rw form at has_it) in (omega arith, omega arith)

    row_sizes : ((work t.task.i t.task.k).rows ≡ part_length (ready.lengths t.op.now.work.rows) t.b t.task.i)
        × ((work t.task.i t.task.k).cols ≡ part_length (ready.lengths t.op.now.work.cols) t.b t.task.k)
    row_sizes = let h = own_in t knowns work g ready in ready.work_parts t.task.i t.task.k h.0 (omega (arith, h.1, before.1))

    col_sizes : ((work t.task.k t.task.j).rows ≡ part_length (ready.lengths t.op.now.work.rows) t.b t.task.k)
        × ((work t.task.k t.task.j).cols ≡ part_length (ready.lengths t.op.now.work.cols) t.b t.task.j)
    col_sizes = let h = own_in t knowns work g ready in ready.work_parts t.task.k t.task.j (omega (arith, h.0, before.0)) h.1

    inner_same : (work t.task.k t.task.j).rows ≡ (work t.task.i t.task.k).cols
    inner_same = col_sizes.0 ∙ ap (λ (d : ℕ). part_length (ready.lengths d) t.b t.task.k) lu_dims ∙ sym row_sizes.1

    module _ (a b : Oper) (part_a : a.part ≡ nth_grid (grids_of t) 0) (structure_a : a.structure ≡ General) (straight_a : a.primed ≡ false) (residues_a : AreResidues t.m a.part)
        (part_b : b.part ≡ nth_grid (grids_of t) 1) (structure_b : b.structure ≡ General) (straight_b : b.primed ≡ false) (residues_b : AreResidues t.m b.part) where
      l_read : IsRead t.m g.rows (work t.task.i t.task.k).cols (entry (work t.task.i t.task.k)) a
      l_read = rw ((own_sizes t knowns work g ready).0 ∙ sym row_sizes.0)
          (block-is_read t.m General (work t.task.i t.task.k) a (part_a ∙ ap (λ (gs : List Grid). nth_grid gs 0) reads_lu) structure_a (λ ne. absurd (ne refl)) residues_a straight_a)

      u_read : IsRead t.m (work t.task.i t.task.k).cols g.cols (entry (work t.task.k t.task.j)) b
      u_read = rw ((own_sizes t knowns work g ready).1 ∙ sym col_sizes.1, sym inner_same)
          (block-is_read t.m General (work t.task.k t.task.j) b (part_b ∙ ap (λ (gs : List Grid). nth_grid gs 1) reads_lu) structure_b (λ ne. absurd (ne refl)) residues_b straight_b)

      pub lu_can : CanUpdate t.m g a b
      lu_can = can_update t.m (work t.task.i t.task.k).cols g _ _ a b l_read u_read

      pub lu_done : (inside : Structure) (new : Grid) → inside ≡ block_structure t.op.now.work.structure t.task.i t.task.j
          → IsUpdated t.m true inside (op_cols a) (op_table a) (op_table b) g new → IsEffect t.m t.op.now knowns work t.task new
      lu_done inside new inside_is updated = effect new (rw form
          (updated-same t.m true (block_structure t.op.now.work.structure t.task.i t.task.j) _ _ _ _ _ _ (work t.task.i t.task.j) new
          l_read.cols_is l_read.table_is u_read.table_is (rw (inside_is, ready.block) at updated)))

  -- ---- L * D * L'

  module _ (form : t.op.now.form ≡ Ldl) where
    lower : t.op.now.work.structure ≡ Lower
    lower = ldl-lower t.op.now ready.has_knowns.valid form

    ldl_dims : t.op.now.work.rows ≡ t.op.now.work.cols
    ldl_dims = (work_operand t.op.now ready.has_knowns.valid).square (rw lower (λ e. absurd (cc)))

    pub reads_ldl : grids_of t ≡ work t.task.i t.task.k ∷ work t.task.k t.task.k ∷ work t.task.j t.task.k ∷ []
    reads_ldl = rw form at reads_left_are

    k_before : t.task.k < t.task.j
    k_before = ltb-true t.task.k t.task.j (rw form at has_it)

    -- W's block is none above the diagonal
    j_before : t.task.j ≤ t.task.i
    j_before =
        let outer = and_parts (nat_lt t.task.i (parts_of ready.counts t.op.now.work.rows) && nat_lt t.task.j (parts_of ready.counts t.op.now.work.cols))
        (not (is_zero t.op.now.work.structure t.task.i t.task.j)) (parts_own t knowns work g ready).0 in
        let test : not (nat_lt t.task.i t.task.j) ≡ true = rw lower at outer.1 in
        grind (arith, nat_tests)

    sizes_at : (i k : ℕ) → i ≤ t.task.i → k < t.task.j
        → ((work i k).rows ≡ part_length (ready.lengths t.op.now.work.rows) t.b i) × ((work i k).cols ≡ part_length (ready.lengths t.op.now.work.cols) t.b k)
    sizes_at i k i_in k_in = let h = own_in t knowns work g ready in ready.work_parts i k (omega (arith, h.0)) (omega (arith, h.1))

    same_length : (p : ℕ) → part_length (ready.lengths t.op.now.work.rows) t.b p ≡ part_length (ready.lengths t.op.now.work.cols) t.b p
    same_length p = ap (λ (d : ℕ). part_length (ready.lengths d) t.b p) ldl_dims

    module _ (a d b : Oper) (part_a : a.part ≡ nth_grid (grids_of t) 0) (structure_a : a.structure ≡ General) (straight_a : a.primed ≡ false) (residues_a : AreResidues t.m a.part)
        (part_d : d.part ≡ nth_grid (grids_of t) 1) (structure_d : d.structure ≡ Diagonal) (straight_d : d.primed ≡ false) (residues_d : AreResidues t.m d.part)
        (part_b : b.part ≡ nth_grid (grids_of t) 2) (structure_b : b.structure ≡ General) (turned_b : b.primed ≡ true) (residues_b : AreResidues t.m b.part) where
      abbrev inner : ℕ
      inner = (work t.task.i t.task.k).cols

      own_left : IsRead t.m g.rows inner (entry (work t.task.i t.task.k)) a
      own_left = rw ((own_sizes t knowns work g ready).0 ∙ sym (sizes_at t.task.i t.task.k (omega arith) k_before).0)
          (block-is_read t.m General (work t.task.i t.task.k) a (part_a ∙ ap (λ (gs : List Grid). nth_grid gs 0) reads_ldl) structure_a (λ ne. absurd (ne refl)) residues_a straight_a)

      d_cols : (work t.task.k t.task.k).cols ≡ inner
      d_cols = (sizes_at t.task.k t.task.k (omega (arith, k_before, j_before)) k_before).1 ∙ sym (sizes_at t.task.i t.task.k (omega arith) k_before).1

      d_square : (work t.task.k t.task.k).rows ≡ (work t.task.k t.task.k).cols
      d_square = let h = sizes_at t.task.k t.task.k (omega (arith, k_before, j_before)) k_before in h.0 ∙ same_length t.task.k ∙ sym h.1

      own_middle : IsRead t.m inner inner (view Diagonal (entry (work t.task.k t.task.k))) d
      own_middle = rw (← d_cols) (subst (λ (n : ℕ). IsRead t.m n (work t.task.k t.task.k).cols (view Diagonal (entry (work t.task.k t.task.k))) d) d_square
          (block-is_read t.m Diagonal (work t.task.k t.task.k) d (part_d ∙ ap (λ (gs : List Grid). nth_grid gs 1) reads_ldl) structure_d (λ ne. d_square) residues_d straight_d))

      right_sizes : ((work t.task.j t.task.k).cols ≡ inner) × ((work t.task.j t.task.k).rows ≡ g.cols)
      right_sizes =
          let h = sizes_at t.task.j t.task.k j_before k_before in
          (h.1 ∙ sym (sizes_at t.task.i t.task.k (omega arith) k_before).1, h.0 ∙ same_length t.task.j ∙ sym (own_sizes t knowns work g ready).1)

      own_right : IsRead t.m inner g.cols (transpose (entry (work t.task.j t.task.k))) b
      own_right = rw (← right_sizes.0, ← right_sizes.1)
          (turned-is_read t.m General (work t.task.j t.task.k) b (part_b ∙ ap (λ (gs : List Grid). nth_grid gs 2) reads_ldl) structure_b (λ ne. absurd (ne refl)) residues_b turned_b)

      pub ldl_can : CanUpdate t.m g a b
      ldl_can = can_update t.m inner g _ _ a b own_left own_right

      pub ldl_middle : IsOper d × (op_rows d ≡ op_cols a) × (op_cols d ≡ op_cols a)
      ldl_middle = (own_middle.oper, own_middle.rows_is ∙ sym own_left.cols_is, own_middle.cols_is ∙ sym own_left.cols_is)

      pub ldl_done : (inside : Structure) (new : Grid) → inside ≡ block_structure t.op.now.work.structure t.task.i t.task.j
          → IsUpdatedLdl t.m inside (op_cols a) (op_table a) (op_table d) (op_table b) g new → IsEffect t.m t.op.now knowns work t.task new
      ldl_done inside new inside_is updated = effect new (rw form
          (updated_ldl-same t.m (block_structure t.op.now.work.structure t.task.i t.task.j) _ _ _ _ _ _ _ _ (work t.task.i t.task.j) new
          own_left.cols_is own_left.table_is own_middle.table_is own_right.table_is (rw (inside_is, ready.block) at updated)))
