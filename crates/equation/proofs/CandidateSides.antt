-- What the factors of a statement and a candidate are, as views, and what their products are: the terms of the right side, and the
-- left side of each form.
use Rattle.std.proofs.Common.{◌≡◌, ◌≢◌, ℕ, ◌%◌, ◌<◌, List, Bool, true, false, Contains, sym, refl, ap, ap₂, ◌∙◌, arith}
use Rattle.residue_sums.specs.Tables.{Table, product, times, transpose}
use Rattle.residue_sums.specs.Grids.{Grid, entry}
use Rattle.structure_rules.specs.declared.Structure.{Structure}
use Rattle.structure_rules.specs.declared.Structure.TheVariants.{General, UnitLower, Upper, Diagonal}
use Rattle.structure_rules.specs.Structures.{view}
use Rattle.operation_spec.specs.declared.operation.Operation.{Operation}
use Rattle.operation_spec.specs.declared.operation.Factor.{Factor}
use Rattle.operation_spec.specs.declared.operation.Term.{Term}
use Rattle.operation_spec.specs.declared.operation.Form.TheVariants.{Assign, Left, Right, Sylvester, Lu, Ldl}
use Rattle.operation_spec.specs.ValidOperations.{IsOperand}
use Rattle.equation.specs.declared.candidate.Candidate.{Candidate}
use Rattle.equation.specs.declared.views.FactorView.{FactorView}
use Rattle.equation.specs.Candidates.{combined_at, IsCandidate, IsFactor, IsSeen, knowns_of, view_cols, view_rows, view_table, work_of}
use Rattle.equation.specs.Equations.{factor_table, left_side, term_table}
use Rattle.equation.proofs.FactorSizes.{left_known, product_cols, product_inner, product_rows, right_known, sylvester_knowns}
use Rattle.equation.proofs.FactorViews.{triangle_view_cols, triangle_view_rows, view_cols_are, view_is, view_rows_are}
use Rattle.equation.proofs.LeftSides.{left_side-left, left_side-right, left_side-plus, left_side-minus}
use Rattle.equation.proofs.SolvedGrids.{solution_table-view}
use Rattle.equation.proofs.Assignments.{left_side-assign}
use Rattle.equation.proofs.ValidForms.{left-on, lu-square, ldl-square, right-on, sylvester-on, work-valid}

-- a product of tables that are others
times-same : (m p q : ℕ) (a b other_a other_b : Table) (i j : ℕ) → p ≡ q → a ≡ other_a → b ≡ other_b → times m p a b i j ≡ times m q other_a other_b i j
times-same m p q a b other_a other_b i j inner first second = rw (inner, first, second) refl

-- a view of the candidate reads it through the structure
module _ (c : Candidate) (s : Structure) (v : FactorView) (h : IsSeen c s v) where
  pub seen_is : view_table v ≡ view s (entry c.after.now)
  seen_is = rw (h.matrix, h.structure, h.primed) refl

  pub seen_rows : view_rows v ≡ c.after.now.rows
  seen_rows = rw (h.matrix, h.primed) refl

  pub seen_cols : view_cols v ≡ c.after.now.cols
  seen_cols = rw (h.matrix, h.primed) refl

module _ (c : Candidate) (is : IsCandidate c) where
  abbrev op : Operation
  op = c.op.now

  abbrev knowns : List Grid
  knowns = knowns_of c

  abbrev work : Grid
  work = work_of c

  abbrev after : Grid
  after = c.after.now

  -- the candidate is square where the work structure asks for it
  pub work_square : op.work.structure ≢ General → after.rows ≡ after.cols
  work_square ne =
      let operand : IsOperand op.dims op.work = is.valid.operands 0 op.work (omega arith) in
      is.rows ∙ is.fits.work.rows ∙ ap is.fits.lengths (operand.square ne) ∙ sym is.fits.work.cols ∙ sym is.cols

  -- ---- terms

  module _ (t : Term) (among : Contains op.terms t) (v w : FactorView) (v_is : IsFactor c t.first v) (w_is : IsFactor c t.second w) where
    pub term_rows : view_rows v ≡ work.rows
    term_rows = view_rows_are c.m op knowns t.first v v_is ∙ product_rows op c.matrices.now c.bind.now is.valid is.fits t among

    pub term_cols : view_cols w ≡ work.cols
    term_cols = view_cols_are c.m op knowns t.second w w_is ∙ product_cols op c.matrices.now c.bind.now is.valid is.fits t among

    pub term_inner : view_cols v ≡ view_rows w
    term_inner = view_cols_are c.m op knowns t.first v v_is ∙ sym (product_inner op c.matrices.now c.bind.now is.valid is.fits t among) ∙ sym (view_rows_are c.m op knowns t.second w w_is)

    pub term_is : (i j : ℕ) → times c.m (view_cols v) (view_table v) (view_table w) i j ≡ term_table c.m op knowns t i j
    term_is i j = times-same c.m _ _ _ _ _ _ i j (view_cols_are c.m op knowns t.first v v_is) (view_is c.m op knowns t.first v v_is) (view_is c.m op knowns t.second w w_is)

  -- ---- left sides

  -- T * X
  module _ (t : Factor) (form : op.form ≡ Left t) (v x : FactorView) (v_is : IsFactor c t v) (x_is : IsSeen c op.work.structure x) where
    pub left_rows : view_rows v ≡ work.rows
    left_rows =
        triangle_view_rows c.m op c.matrices.now c.bind.now is.valid is.fits op.work.rows t (left_known op is.valid t form) (left-on op is.valid t form) v v_is
        ∙ sym is.fits.work.rows

    pub left_cols : view_cols v ≡ work.rows
    left_cols =
        triangle_view_cols c.m op c.matrices.now c.bind.now is.valid is.fits op.work.rows t (left_known op is.valid t form) (left-on op is.valid t form) v v_is
        ∙ sym is.fits.work.rows

    pub left_is : (i j : ℕ) → i < work.rows → j < work.cols → times c.m (view_cols v) (view_table v) (view_table x) i j ≡ left_side c.m op knowns after i j
    left_is i j row col =
        times-same c.m _ _ _ _ _ _ i j left_cols (view_is c.m op knowns t v v_is) (seen_is c op.work.structure x x_is)
        ∙ (sym (left_side-left c.m op knowns (work-valid op is.valid) work.rows work.cols after (entry after) is.rows is.cols (λ a b a_row b_col. refl) i j row col t form))

  -- X * T
  module _ (t : Factor) (form : op.form ≡ Right t) (v x : FactorView) (v_is : IsFactor c t v) (x_is : IsSeen c op.work.structure x) where
    pub right_rows : view_rows v ≡ work.cols
    right_rows =
        triangle_view_rows c.m op c.matrices.now c.bind.now is.valid is.fits op.work.cols t (right_known op is.valid t form) (right-on op is.valid t form) v v_is
        ∙ sym is.fits.work.cols

    pub right_cols : view_cols v ≡ work.cols
    right_cols =
        triangle_view_cols c.m op c.matrices.now c.bind.now is.valid is.fits op.work.cols t (right_known op is.valid t form) (right-on op is.valid t form) v v_is
        ∙ sym is.fits.work.cols

    pub right_is : (i j : ℕ) → i < work.rows → j < work.cols → times c.m (view_cols x) (view_table x) (view_table v) i j ≡ left_side c.m op knowns after i j
    right_is i j row col =
        times-same c.m _ _ _ _ _ _ i j (seen_cols c op.work.structure x x_is ∙ is.cols) (seen_is c op.work.structure x x_is) (view_is c.m op knowns t v v_is)
        ∙ (sym (left_side-right c.m op knowns (work-valid op is.valid) work.rows work.cols after (entry after) is.rows is.cols (λ a b a_row b_col. refl) i j row col t form))

  -- T * X + X * U, or T * X - X * U
  module _ (t u : Factor) (minus : Bool) (form : op.form ≡ Sylvester t u minus) (v w x : FactorView) (v_is : IsFactor c t v) (w_is : IsFactor c u w) (x_is : IsSeen c op.work.structure x) where
    pub first_rows : view_rows v ≡ work.rows
    first_rows =
        triangle_view_rows c.m op c.matrices.now c.bind.now is.valid is.fits op.work.rows t (sylvester_knowns op is.valid t u minus form).0 (sylvester-on op is.valid t u minus form).0 v v_is
        ∙ sym is.fits.work.rows

    pub first_cols : view_cols v ≡ work.rows
    first_cols =
        triangle_view_cols c.m op c.matrices.now c.bind.now is.valid is.fits op.work.rows t (sylvester_knowns op is.valid t u minus form).0 (sylvester-on op is.valid t u minus form).0 v v_is
        ∙ sym is.fits.work.rows

    pub second_rows : view_rows w ≡ work.cols
    second_rows =
        triangle_view_rows c.m op c.matrices.now c.bind.now is.valid is.fits op.work.cols u (sylvester_knowns op is.valid t u minus form).1 (sylvester-on op is.valid t u minus form).1 w w_is
        ∙ sym is.fits.work.cols

    pub second_cols : view_cols w ≡ work.cols
    second_cols =
        triangle_view_cols c.m op c.matrices.now c.bind.now is.valid is.fits op.work.cols u (sylvester_knowns op is.valid t u minus form).1 (sylvester-on op is.valid t u minus form).1 w w_is
        ∙ sym is.fits.work.cols

    first_is : (i j : ℕ) → times c.m (view_cols v) (view_table v) (view_table x) i j ≡ product work.rows (factor_table op knowns t) (view op.work.structure (entry after)) i j % c.m
    first_is i j = times-same c.m _ _ _ _ _ _ i j first_cols (view_is c.m op knowns t v v_is) (seen_is c op.work.structure x x_is)

    second_is : (i j : ℕ) → times c.m (view_cols x) (view_table x) (view_table w) i j ≡ product work.cols (view op.work.structure (entry after)) (factor_table op knowns u) i j % c.m
    second_is i j = times-same c.m _ _ _ _ _ _ i j (seen_cols c op.work.structure x x_is ∙ is.cols) (seen_is c op.work.structure x x_is) (view_is c.m op knowns u w w_is)

    pub both_are : (i j : ℕ) → i < work.rows → j < work.cols
        → combined_at c.m minus (times c.m (view_cols v) (view_table v) (view_table x) i j) (times c.m (view_cols x) (view_table x) (view_table w) i j) ≡ left_side c.m op knowns after i j
    both_are i j row col = ap₂ (λ (p q : ℕ). combined_at c.m minus p q) (first_is i j) (second_is i j) ∙ go minus form
      where
        go : (negative : Bool) → op.form ≡ Sylvester t u negative
            → combined_at c.m negative (product work.rows (factor_table op knowns t) (view op.work.structure (entry after)) i j % c.m)
            (product work.cols (view op.work.structure (entry after)) (factor_table op knowns u) i j % c.m) ≡ left_side c.m op knowns after i j
        go false e = sym (left_side-plus c.m op knowns (work-valid op is.valid) work.rows work.cols after (entry after) is.rows is.cols (λ a b a_row b_col. refl) i j row col t u e)
        go true e = sym (left_side-minus c.m op knowns (work-valid op is.valid) work.rows work.cols after (entry after) is.rows is.cols (λ a b a_row b_col. refl) i j row col t u e)

  -- L * U, and L * D * L'
  pub lu_square : op.form ≡ Lu → after.rows ≡ after.cols
  lu_square form = is.rows ∙ lu-square op is.valid is.fits.lengths work is.fits.work form ∙ sym is.cols

  pub ldl_square : op.form ≡ Ldl → after.rows ≡ after.cols
  ldl_square form = is.rows ∙ ldl-square op is.valid is.fits.lengths work is.fits.work form ∙ sym is.cols

  pub lu_is : op.form ≡ Lu → (l u : FactorView) → IsSeen c UnitLower l → IsSeen c Upper u → (i j : ℕ)
      → times c.m (view_cols l) (view_table l) (view_table u) i j ≡ left_side c.m op knowns after i j
  lu_is form l u l_is u_is i j =
      times-same c.m _ _ _ _ _ _ i j (seen_cols c UnitLower l l_is ∙ sym (lu_square form)) (seen_is c UnitLower l l_is) (seen_is c Upper u u_is)
      ∙ rw form refl

  pub ldl_is : op.form ≡ Ldl → (i j : ℕ)
      → times c.m after.rows (times c.m after.rows (view UnitLower (entry after)) (view Diagonal (entry after))) (transpose (view UnitLower (entry after))) i j
      ≡ left_side c.m op knowns after i j
  ldl_is form i j = rw form refl

  -- X
  pub assigned_is : op.form ≡ Assign → (x : FactorView) → IsSeen c op.work.structure x → (i j : ℕ) → view_table x i j ≡ left_side c.m op knowns after i j
  assigned_is form x x_is i j =
      ap (λ (a : Table). a i j) (seen_is c op.work.structure x x_is)
      ∙ sym (solution_table-view op after (entry after) i j (work-valid op is.valid) refl) ∙ sym (left_side-assign c.m op knowns after form i j)
