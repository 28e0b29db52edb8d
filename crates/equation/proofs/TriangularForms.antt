-- A statement whose form has one triangular factor, and no bad pivot, has just one solution.
use Rattle.std.proofs.Common.{◌≡◌, ℕ, ◌<◌, ◌≤◌, List, sym, refl, ◌∙◌, arith}
use Rattle.residue_sums.specs.Residues.{Cong, IsUnit}
use Rattle.residue_sums.specs.Tables.{product}
use Rattle.residue_sums.specs.Grids.{Grid, AreResidues, entry}
use Rattle.residue_sums.proofs.Congruence.{Cong-from_mod, Cong-sym, mod_from_Cong}
use Rattle.structure_rules.specs.Structures.{view}
use Rattle.matrix_algebra.proofs.Solutions.{AgreeOn, left_unique, right_unique, left_solution, right_solution}
use Rattle.matrix_algebra.proofs.Triangles.{IsTriangle-view, IsTriangle-view_transposed}
use Rattle.operation_spec.specs.declared.operation.Operation.{Operation}
use Rattle.operation_spec.specs.declared.operation.Factor.{Factor}
use Rattle.operation_spec.specs.declared.operation.Form.TheVariants.{Left, Right}
use Rattle.operation_spec.specs.ValidOperations.{IsValid}
use Rattle.equation.specs.declared.job.Place.{Place}
use Rattle.equation.specs.Equations.{known_grid, factor_table, right_side, Satisfies}
use Rattle.equation.specs.Pivots.{IsFirstBadPivot, factor_pivots}
use Rattle.equation.proofs.LeftSides.{left_side-left, left_side-right}
use Rattle.equation.proofs.SolvedGrids.{same_solution, solution_grid, HasResidues-right_side}
use Rattle.equation.proofs.UnitPivots.{units_on_diagonal}
use Rattle.equation.proofs.ValidForms.{known_structure, work-valid, left-triangular, right-triangular}

module _ (m : ℕ) (two : 2 ≤ m) (op : Operation) (valid : IsValid op) (knowns : List Grid) (work : Grid)
    (none : (place : Place) → ¬ (IsFirstBadPivot m op knowns work place)) (t : Factor) where
  -- T * X = R
  module _ (form : op.form ≡ Left t) where
    left_units : (i : ℕ) → i < work.rows → IsUnit m (factor_table op knowns t i i)
    left_units = units_on_diagonal m work.rows two (factor_pivots op knowns t) (λ place first. none place (rw form first))

    left_solves : (x : Grid) → Satisfies m op knowns work x
        → AgreeOn m work.rows work.cols op.work.structure (product work.rows (factor_table op knowns t) (view op.work.structure (entry x))) (right_side m op knowns work)
    left_solves x is i j within = Cong-sym (Cong-from_mod (sym (is.equation i j within.row within.col within.inside)
        ∙ left_side-left m op knowns (work-valid op valid) work.rows work.cols x (entry x) is.rows is.cols (λ a b row col. refl) i j within.row within.col t form))

    pub one_left : (x y : Grid) → Satisfies m op knowns work x → Satisfies m op knowns work y → x ≡ y
    one_left x y x_is y_is = same_solution m op knowns work x y x_is y_is
        (left_unique m work.rows work.cols two op.work.structure (work-valid op valid) (factor_table op knowns t) _
        (IsTriangle-view t.primed (known_structure op t) work.rows (entry (known_grid knowns t.known)) (left-triangular op valid t form))
        left_units (right_side m op knowns work) (entry x) (entry y) (left_solves x x_is) (left_solves y y_is))

    pub some_left : AreResidues m work → (x : Grid) × Satisfies m op knowns work x
    some_left residues = solution_grid m op knowns work
        (λ a i j. Cong m (product work.rows (factor_table op knowns t) (view op.work.structure a) i j) (right_side m op knowns work i j)) (omega arith) residues
        (left_solution m work.rows work.cols two op.work.structure (work-valid op valid) (factor_table op knowns t) _
        (IsTriangle-view t.primed (known_structure op t) work.rows (entry (known_grid knowns t.known)) (left-triangular op valid t form))
        left_units (right_side m op knowns work) (entry work))
        (λ x rows cols has i j within holds.
        left_side-left m op knowns (work-valid op valid) work.rows work.cols x _ rows cols has i j within.row within.col t form
        ∙ sym (mod_from_Cong (HasResidues-right_side m op knowns work (omega arith) residues i j) (Cong-sym holds)))

  -- X * T = R
  module _ (form : op.form ≡ Right t) where
    right_units : (j : ℕ) → j < work.cols → IsUnit m (factor_table op knowns t j j)
    right_units = units_on_diagonal m work.cols two (factor_pivots op knowns t) (λ place first. none place (rw form first))

    right_solves : (x : Grid) → Satisfies m op knowns work x
        → AgreeOn m work.rows work.cols op.work.structure (product work.cols (view op.work.structure (entry x)) (factor_table op knowns t)) (right_side m op knowns work)
    right_solves x is i j within = Cong-sym (Cong-from_mod (sym (is.equation i j within.row within.col within.inside)
        ∙ left_side-right m op knowns (work-valid op valid) work.rows work.cols x (entry x) is.rows is.cols (λ a b row col. refl) i j within.row within.col t form))

    pub one_right : (x y : Grid) → Satisfies m op knowns work x → Satisfies m op knowns work y → x ≡ y
    one_right x y x_is y_is = same_solution m op knowns work x y x_is y_is
        (right_unique m work.rows work.cols two op.work.structure (work-valid op valid) (factor_table op knowns t) _
        (IsTriangle-view_transposed t.primed (known_structure op t) work.cols (entry (known_grid knowns t.known)) (right-triangular op valid t form))
        right_units (right_side m op knowns work) (entry x) (entry y) (right_solves x x_is) (right_solves y y_is))

    pub some_right : AreResidues m work → (x : Grid) × Satisfies m op knowns work x
    some_right residues = solution_grid m op knowns work
        (λ a i j. Cong m (product work.cols (view op.work.structure a) (factor_table op knowns t) i j) (right_side m op knowns work i j)) (omega arith) residues
        (right_solution m work.rows work.cols two op.work.structure (work-valid op valid) (factor_table op knowns t) _
        (IsTriangle-view_transposed t.primed (known_structure op t) work.cols (entry (known_grid knowns t.known)) (right-triangular op valid t form))
        right_units (right_side m op knowns work) (entry work))
        (λ x rows cols has i j within holds.
        left_side-right m op knowns (work-valid op valid) work.rows work.cols x _ rows cols has i j within.row within.col t form
        ∙ sym (mod_from_Cong (HasResidues-right_side m op knowns work (omega arith) residues i j) (Cong-sym holds)))
