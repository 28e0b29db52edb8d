-- A statement that is done by kernels: its terms are updates of the work matrix, one after another, and the kernel of its form
-- solves for, or factors, what they leave. What that kernel leaves satisfies the equation of the statement.
use Rattle.std.proofs.Common.{◌≡◌, ℕ, ◌+◌, ◌-◌, ◌%◌, ◌<◌, ◌≤◌, List, [], ◌∷◌, ◌++◌, Bool, true, false, cond, refl, sym, ap, ◌∙◌, arith}
use Rattle.residue_sums.specs.Tables.{Table, plus, times, transpose}
use Rattle.residue_sums.specs.Grids.{Grid, IsFull, AreResidues, entry}
use Rattle.structure_rules.specs.declared.Structure.{Structure}
use Rattle.structure_rules.specs.declared.Structure.TheVariants.{General, Lower, UnitLower, Diagonal}
use Rattle.structure_rules.specs.Structures.{view}
use Rattle.matrix_algebra.proofs.Products.{product-times_left}
use Rattle.operation_spec.specs.declared.operation.Operation.{Operation}
use Rattle.operation_spec.specs.declared.operation.Factor.{Factor}
use Rattle.operation_spec.specs.declared.operation.Term.{Term}
use Rattle.operation_spec.specs.declared.operation.Form.TheVariants.{Assign, Left, Right, Sylvester, Lu, Ldl}
use Rattle.operation_spec.specs.ValidOperations.{IsValid}
use Rattle.equation.specs.declared.job.Place.{Place}
use Rattle.equation.specs.Equations.{factor_cols, factor_table, left_side, minus, right_side, Satisfies, term_table, with_terms}
use Rattle.equation.specs.Kernels.{IsValue, combined, HasTerms, HasRightSide, IsUpdated, IsSolvedLeft, IsSolvedRight, IsSolvedSylvester, IsFactoredLu, IsFactoredLdl}
use Rattle.equation.specs.Pivots.{IsBadForLu, IsBadForLdl, IsFirstBadPivot}
use Rattle.equation.proofs.Assignments.{left_side-assign, solution_inside}
use Rattle.equation.proofs.FactorLeftSides.{left_side-lu, left_side-ldl}
use Rattle.equation.proofs.LeftSides.{left_side-left, left_side-right, left_side-plus, left_side-minus}
use Rattle.equation.proofs.ValidForms.{work-valid, sylvester-general, lu-general, ldl-lower}

-- ---- leading blocks that agree have one first bad pivot

pub IsBadForLu-same : (m : ℕ) (r other : Table) (k : ℕ) → ((i j : ℕ) → i ≤ k → j ≤ k → r i j ≡ other i j) → IsBadForLu m r k → IsBadForLu m other k
IsBadForLu-same m r other k same bad = record {
  l = bad.l;
  u = bad.u;
  l_residues = bad.l_residues;
  u_residues = bad.u_residues;
  product = λ i j row col. bad.product i j row col ∙ same i j row col;
  units = bad.units;
  bad = bad.bad;
}

pub IsBadForLdl-same : (m : ℕ) (r other : Table) (k : ℕ) → ((i j : ℕ) → i ≤ k → j ≤ i → r i j ≡ other i j) → IsBadForLdl m r k → IsBadForLdl m other k
IsBadForLdl-same m r other k same bad = record {
  l = bad.l;
  d = bad.d;
  l_residues = bad.l_residues;
  d_residues = bad.d_residues;
  product = λ i j row low. bad.product i j row low ∙ same i j row low;
  units = bad.units;
  bad = bad.bad;
}

-- ---- terms

-- no term: the work matrix itself
pub HasTerms-none : (m : ℕ) (op : Operation) (knowns : List Grid) (work : Grid) → IsFull work → AreResidues m work → HasTerms m op knowns [] work work
HasTerms-none m op knowns work full residues = record {
  rows = refl;
  cols = refl;
  full = full;
  residues = residues;
  equation = λ i j row col inside. refl;
  others = λ i j row col none. refl;
}

-- the same sums and differences, entry by entry
combined-same : (m : ℕ) (negative : Bool) (a b c : Table) (i j : ℕ) → a i j ≡ b i j → combined m negative a c i j ≡ combined m negative b c i j
combined-same m true a b c i j e = ap (λ (v : ℕ). (v + (m - c i j)) % m) e
combined-same m false a b c i j e = ap (λ (v : ℕ). (v + c i j) % m) e

-- one term more
pub with_terms-last : (m : ℕ) (op : Operation) (knowns : List Grid) (terms : List Term) (t : Term) (a : Table) (i j : ℕ)
    → with_terms m op knowns (terms ++ t ∷ []) a i j ≡ combined m t.minus (with_terms m op knowns terms a) (term_table m op knowns t) i j
with_terms-last m op knowns [] t a i j = refl
with_terms-last m op knowns (u ∷ terms) t a i j =
    with_terms-last m op knowns terms t (cond u.minus (minus m a (term_table m op knowns u)) (plus m a (term_table m op knowns u))) i j

-- one more term, by an update
pub HasTerms-more : (m : ℕ) (op : Operation) (knowns : List Grid) (terms : List Term) (t : Term) (work before after : Grid) → HasTerms m op knowns terms work before
    → IsUpdated m t.minus op.work.structure (factor_cols knowns t.first) (factor_table op knowns t.first) (factor_table op knowns t.second) before after
    → HasTerms m op knowns (terms ++ t ∷ []) work after
HasTerms-more m op knowns terms t work before after so_far next = record {
  rows = next.rows ∙ so_far.rows;
  cols = next.cols ∙ so_far.cols;
  full = next.full;
  residues = next.residues;
  equation = λ i j row col inside.
      next.equation i j (rw so_far.rows row) (rw so_far.cols col) inside
      ∙ combined-same m t.minus (entry before) (with_terms m op knowns terms (entry work)) (term_table m op knowns t) i j (so_far.equation i j row col inside)
      ∙ sym (with_terms-last m op knowns terms t (entry work) i j);
  others = λ i j row col none. next.others i j (rw so_far.rows row) (rw so_far.cols col) none ∙ so_far.others i j row col none;
}

-- ---- the kernel of each form, on the right side r

module _ (m : ℕ) (op : Operation) (valid : IsValid op) (knowns : List Grid) (work r : Grid) (has : HasRightSide m op knowns work r) where
  -- what any kernel leaves of r satisfies the equation, where its left side is that of the form
  module _ (x : Grid) (s : Structure) (structure_is : op.work.structure ≡ s) (left : Table → Table) (is : IsValue m s left (entry r) r x)
      (same : (i j : ℕ) → i < r.rows → j < r.cols → left_side m op knowns x i j ≡ left (entry x) i j) where
    satisfies : Satisfies m op knowns work x
    satisfies = record {
      rows = is.rows ∙ has.rows;
      cols = is.cols ∙ has.cols;
      full = is.full;
      residues = is.residues;
      equation = λ i j row col inside.
          let r_row : i < r.rows = rw has.rows row in
          let r_col : j < r.cols = rw has.cols col in
          same i j r_row r_col ∙ is.equation i j r_row r_col (rw structure_is at inside) ∙ has.equation i j row col inside;
      others = λ i j row col none. is.others i j (rw has.rows row) (rw has.cols col) (rw structure_is at none) ∙ has.others i j row col none;
    }

  -- X = R: the right side itself
  pub Satisfies-right_side : op.form ≡ Assign → Satisfies m op knowns work r
  Satisfies-right_side form = record {
    rows = has.rows;
    cols = has.cols;
    full = has.full;
    residues = has.residues;
    equation = λ i j row col inside. left_side-assign m op knowns r form i j ∙ solution_inside op r i j inside ∙ has.equation i j row col inside;
    others = has.others;
  }

  module _ (x : Grid) where
    -- T * X = R
    pub Satisfies-solved_left : (t : Factor) → op.form ≡ Left t → IsSolvedLeft m op.work.structure (factor_table op knowns t) r x → Satisfies m op knowns work x
    Satisfies-solved_left t form is = satisfies x op.work.structure refl _ is
        (λ i j row col. left_side-left m op knowns (work-valid op valid) r.rows r.cols x (entry x) is.rows is.cols (λ a b a_row b_col. refl) i j row col t form)

    -- X * T = R
    pub Satisfies-solved_right : (t : Factor) → op.form ≡ Right t → IsSolvedRight m op.work.structure (factor_table op knowns t) r x → Satisfies m op knowns work x
    Satisfies-solved_right t form is = satisfies x op.work.structure refl _ is
        (λ i j row col. left_side-right m op knowns (work-valid op valid) r.rows r.cols x (entry x) is.rows is.cols (λ a b a_row b_col. refl) i j row col t form)

    -- T * X + X * U = R, or T * X - X * U = R
    pub Satisfies-solved_sylvester : (t u : Factor) (negative : Bool) → op.form ≡ Sylvester t u negative
        → IsSolvedSylvester m negative (factor_table op knowns t) (factor_table op knowns u) r x → Satisfies m op knowns work x
    Satisfies-solved_sylvester t u negative form is = satisfies x General (sylvester-general op valid t u negative form) _ is (same negative form)
      where
        same : (negative : Bool) → op.form ≡ Sylvester t u negative → (i j : ℕ) → i < r.rows → j < r.cols → left_side m op knowns x i j
            ≡ combined m negative (times m r.rows (factor_table op knowns t) (entry x)) (times m r.cols (entry x) (factor_table op knowns u)) i j
        same false form i j row col =
            left_side-plus m op knowns (work-valid op valid) r.rows r.cols x (entry x) is.rows is.cols (λ a b a_row b_col. refl) i j row col t u form
            ∙ rw (sylvester-general op valid t u false form) refl
        same true form i j row col =
            left_side-minus m op knowns (work-valid op valid) r.rows r.cols x (entry x) is.rows is.cols (λ a b a_row b_col. refl) i j row col t u form
            ∙ rw (sylvester-general op valid t u true form) refl

    module _ (square : r.rows ≡ r.cols) where
      -- L * U = R
      pub Satisfies-factored_lu : op.form ≡ Lu → IsFactoredLu m r x → Satisfies m op knowns work x
      Satisfies-factored_lu form is = satisfies x General (lu-general op valid form).0 _ is
          (λ i j row col. left_side-lu m op knowns r.rows x (entry x) is.rows (is.cols ∙ sym square) (λ a b a_row b_col. refl) i j row (rw square col) form)

      -- L * D * L' = R
      pub Satisfies-factored_ldl : op.form ≡ Ldl → IsFactoredLdl m r x → Satisfies m op knowns work x
      Satisfies-factored_ldl form is = satisfies x Lower (ldl-lower op valid form) _ is
          (λ i j row col.
          let both = product-times_left m r.rows r.rows (view UnitLower (entry x)) (view Diagonal (entry x)) (transpose (view UnitLower (entry x))) i j in
          left_side-ldl m op knowns r.rows x (entry x) is.rows (is.cols ∙ sym square) (λ a b a_row b_col. refl) i j row (rw square col) form
          ∙ sym both.same)

  -- ---- bad pivots of the forms that find factors: those of r are those of the statement

  module _ (square : r.rows ≡ r.cols) where
    lu_entry : op.form ≡ Lu → (k : ℕ) → k < r.rows → (i j : ℕ) → i ≤ k → j ≤ k → entry r i j ≡ right_side m op knowns work i j
    lu_entry form k below i j row col =
        let in_row : i < work.rows = omega (arith, has.rows) in
        let in_col : j < work.cols = omega (arith, has.cols) in
        has.equation i j in_row in_col (rw (lu-general op valid form).0 (λ outside. outside))

    ldl_entry : op.form ≡ Ldl → (k : ℕ) → k < r.rows → (i j : ℕ) → i ≤ k → j ≤ i → entry r i j ≡ right_side m op knowns work i j
    ldl_entry form k below i j row low =
        let in_row : i < work.rows = omega (arith, has.rows) in
        let in_col : j < work.cols = omega (arith, has.cols) in
        has.equation i j in_row in_col (rw (ldl-lower op valid form) (λ above. omega arith))

    pub IsFirstBadPivot-lu : op.form ≡ Lu → (k : ℕ) → k < r.rows → IsBadForLu m (entry r) k → IsFirstBadPivot m op knowns work (record { row = k; col = k })
    IsFirstBadPivot-lu form k below bad = rw form
        (refl, rw (sym has.rows) below, IsBadForLu-same m (entry r) (right_side m op knowns work) k (lu_entry form k below) bad)

    pub no_bad_pivot-lu : op.form ≡ Lu → ((k : ℕ) → k < r.rows → ¬ (IsBadForLu m (entry r) k)) → (place : Place) → ¬ (IsFirstBadPivot m op knowns work place)
    no_bad_pivot-lu form none place first =
        let on : (place.col ≡ place.row) × (place.row < work.rows) × IsBadForLu m (right_side m op knowns work) place.row = rw form at first in
        let below : place.row < r.rows = rw has.rows on.1 in
        none place.row below (IsBadForLu-same m (right_side m op knowns work) (entry r) place.row (λ i j row col. sym (lu_entry form place.row below i j row col)) on.2)

    pub IsFirstBadPivot-ldl : op.form ≡ Ldl → (k : ℕ) → k < r.rows → IsBadForLdl m (entry r) k → IsFirstBadPivot m op knowns work (record { row = k; col = k })
    IsFirstBadPivot-ldl form k below bad = rw form
        (refl, rw (sym has.rows) below, IsBadForLdl-same m (entry r) (right_side m op knowns work) k (ldl_entry form k below) bad)

    pub no_bad_pivot-ldl : op.form ≡ Ldl → ((k : ℕ) → k < r.rows → ¬ (IsBadForLdl m (entry r) k)) → (place : Place) → ¬ (IsFirstBadPivot m op knowns work place)
    no_bad_pivot-ldl form none place first =
        let on : (place.col ≡ place.row) × (place.row < work.rows) × IsBadForLdl m (right_side m op knowns work) place.row = rw form at first in
        let below : place.row < r.rows = rw has.rows on.1 in
        none place.row below (IsBadForLdl-same m (right_side m op knowns work) (entry r) place.row (λ i j row low. sym (ldl_entry form place.row below i j row low)) on.2)
