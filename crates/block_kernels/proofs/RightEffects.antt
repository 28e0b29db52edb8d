-- The products with a block on the right, as their tasks read them.
use Rattle.std.proofs.Common.{◌≡◌, ℕ, ◌<◌, Bool, true, false, not, List, [], ◌∷◌, length, refl, sym, ◌∙◌, ap, subst}
use Rattle.std.specs.Prelude.{◌==◌, ◌&&◌}
use Rattle.std.proofs.lemmas.Bool.{and_parts, false≢true}
use Rattle.residue_sums.specs.Sums.{part_length}
use Rattle.residue_sums.specs.Grids.{Grid, AreResidues}
use Rattle.structure_rules.specs.declared.Structure.{Structure}
use Rattle.operation_spec.specs.declared.operation.Factor.{Factor}
use Rattle.operation_spec.specs.declared.operation.Form.{Form}
use Rattle.operation_spec.specs.declared.operation.Form.TheVariants.{Assign, Left, Right, Sylvester, Lu, Ldl}
use Rattle.operation_spec.specs.declared.task.Kind.TheVariants as kinds
use Rattle.task_graph.specs.Factors.{known}
use Rattle.task_graph.specs.Tasks.{has_right, reads_right, is_inside, is_work_block}
use Rattle.matrix_parts.specs.declared.oper.Oper.{Oper}
use Rattle.matrix_parts.specs.Opers.{op_cols, op_table}
use Rattle.equation.proofs.FactorSizes.{right_known, sylvester_knowns}
use Rattle.equation.proofs.ValidForms.{IsTriangleOn, right-on, sylvester-on}
use Rattle.equation.specs.Jobs.{nth_grid}
use Rattle.equation.specs.Kernels.{IsUpdated}
use Rattle.flash_blocks.specs.Blocks.{Blocks}
use Rattle.block_tasks.specs.Effects.{block_structure, factor_block, solution_block, right_effect, IsEffect}
use Rattle.block_kernels.specs.declared.block_task.BlockTask.{BlockTask}
use Rattle.block_kernels.specs.BlockOpers.{IsBlockOper, HasRight}
use Rattle.block_kernels.specs.ReadGrids.{factor_grid, right_grids}
use Rattle.block_kernels.specs.Ready.{IsReady, grids_of}
use Rattle.block_kernels.proofs.TaskBlocks.{IsRead, CanUpdate, can_update, updated-same, triangle_dims, factor-is_read, block-is_read, row_count, col_count, block_in, parts_own, own_in, own_sizes, work_square}

module _ (t : BlockTask) (knowns : ℕ → Blocks) (work : Blocks) (g : Grid) (ready : IsReady t knowns work g) (kind : t.task.kind ≡ kinds.Right) where
  has_it : has_right t.op.now ready.counts t.op.now.form t.task.i t.task.j t.task.k ≡ true
  has_it = (and_parts (t.task.term == 0) (has_right t.op.now ready.counts t.op.now.form t.task.i t.task.j t.task.k) (rw kind at (parts_own t knowns work g ready).1)).1

  -- forms without such a product
  pub right_none : has_right t.op.now ready.counts t.op.now.form t.task.i t.task.j t.task.k ≡ false → ⊥
  right_none e = false≢true (sym e ∙ has_it)

  module _ (f : Factor) (negative : Bool) (on_right : HasRight t.op.now.form f negative) where
    right_triangle : (form : Form) → t.op.now.form ≡ form → HasRight form f negative → (f.known < length t.op.now.knowns) × IsTriangleOn t.op.now t.op.now.work.cols f
    right_triangle (Right u) e h = subst (λ (x : Factor). (x.known < length t.op.now.knowns) × IsTriangleOn t.op.now t.op.now.work.cols x) h.0
        (right_known t.op.now ready.has_knowns.valid u e, right-on t.op.now ready.has_knowns.valid u e)
    right_triangle (Sylvester v u minus) e h = subst (λ (x : Factor). (x.known < length t.op.now.knowns) × IsTriangleOn t.op.now t.op.now.work.cols x) h.0
        ((sylvester_knowns t.op.now ready.has_knowns.valid v u minus e).1, (sylvester-on t.op.now ready.has_knowns.valid v u minus e).1)
    right_triangle Assign e h = absurd h
    right_triangle (Left u) e h = absurd h
    right_triangle Lu e h = absurd h
    right_triangle Ldl e h = absurd h

    pub right_known_is : f.known < length t.op.now.knowns
    right_known_is = (right_triangle t.op.now.form refl on_right).0

    abbrev pub factor_right_grids : List Grid
    factor_right_grids = work t.task.i t.task.k ∷ factor_grid t.op.now knowns f t.task.k t.task.j ∷ []

    pub reads_factor_right : grids_of t ≡ factor_right_grids
    reads_factor_right = rw kind at ready.reads ∙ go t.op.now.form on_right
      where
        go : (form : Form) → HasRight form f negative → right_grids t.op.now knowns work form t.task.i t.task.j t.task.k ≡ factor_right_grids
        go (Right u) h = rw h.0 refl
        go (Sylvester v u minus) h = rw h.0 refl
        go Assign h = absurd h
        go (Left u) h = absurd h
        go Lu h = absurd h
        go Ldl h = absurd h

    inner_block : is_work_block t.op.now ready.counts t.task.i t.task.k ≡ true
    inner_block = go t.op.now.form on_right has_it
      where
        of_read : (u : Factor) → reads_right t.op.now ready.counts u t.task.i t.task.j t.task.k ≡ true → is_work_block t.op.now ready.counts t.task.i t.task.k ≡ true
        of_read u h = (and_parts (is_inside t.op.now u t.task.k t.task.j && not (t.task.k == t.task.j)) (is_work_block t.op.now ready.counts t.task.i t.task.k) h).1

        go : (form : Form) → HasRight form f negative → has_right t.op.now ready.counts form t.task.i t.task.j t.task.k ≡ true → is_work_block t.op.now ready.counts t.task.i t.task.k ≡ true
        go (Right u) e h = of_read u h
        go (Sylvester v u minus) e h = of_read u h
        go Assign e h = absurd e
        go (Left u) e h = absurd e
        go Lu e h = absurd e
        go Ldl e h = absurd e

    inner_in : (t.task.i < row_count t knowns work g ready) × (t.task.k < col_count t knowns work g ready)
    inner_in = block_in t knowns work g ready t.task.i t.task.k inner_block

    module _ (a b : Oper)
        (part_a : a.part ≡ nth_grid (grids_of t) 0) (structure_a : a.structure ≡ block_structure t.op.now.work.structure t.task.i t.task.k) (straight_a : a.primed ≡ false)
        (residues_a : AreResidues t.m a.part)
        (is_b : IsBlockOper (known t.op.now f.known).structure f.primed t.task.k t.task.j (nth_grid (grids_of t) 1) b) (residues_b : AreResidues t.m b.part) where
      sizes : ((work t.task.i t.task.k).rows ≡ part_length (ready.lengths t.op.now.work.rows) t.b t.task.i)
          × ((work t.task.i t.task.k).cols ≡ part_length (ready.lengths t.op.now.work.cols) t.b t.task.k)
      sizes = ready.work_parts t.task.i t.task.k inner_in.0 inner_in.1

      first_read : IsRead t.m g.rows (work t.task.i t.task.k).cols (solution_block t.op.now work t.task.i t.task.k) a
      first_read = rw ((own_sizes t knowns work g ready).0 ∙ sym sizes.0)
          (block-is_read t.m (block_structure t.op.now.work.structure t.task.i t.task.k) (work t.task.i t.task.k) a
          (part_a ∙ ap (λ (gs : List Grid). nth_grid gs 0) reads_factor_right) structure_a (work_square t knowns work g ready t.task.i t.task.k inner_in.0 inner_in.1) residues_a straight_a)

      second_read : IsRead t.m (work t.task.i t.task.k).cols g.cols (factor_block t.op.now knowns f t.task.k t.task.j) b
      second_read =
          let dims = triangle_dims t.op.now ready.has_knowns.valid t.op.now.work.cols f right_known_is (right_triangle t.op.now.form refl on_right).1 in
          rw ((own_sizes t knowns work g ready).1, sizes.1)
          (factor-is_read t.b t.m t.op.now ready.lengths knowns ready.has_knowns f right_known_is t.task.k t.task.j t.op.now.work.cols t.op.now.work.cols dims.0 dims.1
          inner_in.1 (own_in t knowns work g ready).1 (nth_grid (grids_of t) 1) b (ap (λ (gs : List Grid). nth_grid gs 1) reads_factor_right) is_b residues_b)

      pub factor_right_can : CanUpdate t.m g a b
      factor_right_can = can_update t.m (work t.task.i t.task.k).cols g _ _ a b first_read second_read

      pub factor_right_done : (inside : Structure) (new : Grid) → inside ≡ block_structure t.op.now.work.structure t.task.i t.task.j
          → IsUpdated t.m negative inside (op_cols a) (op_table a) (op_table b) g new → IsEffect t.m t.op.now knowns work t.task new
      factor_right_done inside new inside_is updated = rw kind (go t.op.now.form on_right)
        where
          named : IsUpdated t.m negative (block_structure t.op.now.work.structure t.task.i t.task.j) (work t.task.i t.task.k).cols
              (solution_block t.op.now work t.task.i t.task.k) (factor_block t.op.now knowns f t.task.k t.task.j) (work t.task.i t.task.j) new
          named = updated-same t.m negative (block_structure t.op.now.work.structure t.task.i t.task.j) _ _ _ _ _ _ (work t.task.i t.task.j) new
              first_read.cols_is first_read.table_is second_read.table_is (rw (inside_is, ready.block) at updated)

          -- the form's own factor and sign
          named_as : (x : Factor) (n : Bool) → x ≡ f → negative ≡ n → IsUpdated t.m n (block_structure t.op.now.work.structure t.task.i t.task.j) (work t.task.i t.task.k).cols
              (solution_block t.op.now work t.task.i t.task.k) (factor_block t.op.now knowns x t.task.k t.task.j) (work t.task.i t.task.j) new
          named_as x n factor_is sign_is =
              subst (λ (y : Factor). IsUpdated t.m n (block_structure t.op.now.work.structure t.task.i t.task.j) (work t.task.i t.task.k).cols
              (solution_block t.op.now work t.task.i t.task.k) (factor_block t.op.now knowns y t.task.k t.task.j) (work t.task.i t.task.j) new) (sym factor_is)
              (subst (λ (y : Bool). IsUpdated t.m y (block_structure t.op.now.work.structure t.task.i t.task.j) (work t.task.i t.task.k).cols
              (solution_block t.op.now work t.task.i t.task.k) (factor_block t.op.now knowns f t.task.k t.task.j) (work t.task.i t.task.j) new) sign_is named)

          go : (form : Form) → HasRight form f negative → right_effect t.m t.op.now knowns work form t.task.i t.task.j t.task.k new
          go (Right u) h = named_as u true h.0 h.1
          go (Sylvester v u minus) h = named_as u (not minus) h.0 h.1
          go Assign h = absurd h
          go (Left u) h = absurd h
          go Lu h = absurd h
          go Ldl h = absurd h
