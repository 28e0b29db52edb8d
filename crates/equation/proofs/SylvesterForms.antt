-- A statement whose form has two triangular factors, and no bad pivot, has just one solution.
use Rattle.std.proofs.Common.{◌≡◌, ℕ, ◌+◌, ◌-◌, ◌%◌, ◌<◌, ◌≤◌, List, true, false, sym, refl, ◌∙◌, arith}
use Rattle.std.proofs.Math.Nat.{mod-lt}
use Rattle.residue_sums.specs.Residues.{Cong, IsUnit}
use Rattle.residue_sums.specs.Tables.{Table, product, plus}
use Rattle.residue_sums.specs.Grids.{Grid, AreResidues, entry}
use Rattle.residue_sums.proofs.Congruence.{Cong-add, Cong-from_mod, Cong-from_difference, Cong-mod, Cong-refl, Cong-sym, Cong-trans, IsUnit-Cong, difference_from_Cong, mod_from_Cong}
use Rattle.structure_rules.specs.Structures.{view}
use Rattle.matrix_algebra.proofs.Solutions.{AgreeOn, sylvester_plus_unique, sylvester_minus_unique, sylvester_plus_solution, sylvester_minus_solution}
use Rattle.matrix_algebra.proofs.Triangles.{IsTriangle-view, IsTriangle-view_transposed}
use Rattle.operation_spec.specs.declared.operation.Operation.{Operation}
use Rattle.operation_spec.specs.declared.operation.Factor.{Factor}
use Rattle.operation_spec.specs.declared.operation.Form.TheVariants.{Sylvester}
use Rattle.operation_spec.specs.ValidOperations.{IsValid}
use Rattle.equation.specs.declared.job.Place.{Place}
use Rattle.equation.specs.Equations.{known_grid, factor_table, minus, right_side, Satisfies}
use Rattle.equation.specs.Pivots.{IsFirstBadPivot, factor_pivots}
use Rattle.equation.proofs.FactorResidues.{HasResidues-factor}
use Rattle.equation.proofs.LeftSides.{left_side-plus, left_side-minus}
use Rattle.equation.proofs.SolvedGrids.{same_solution, solution_grid, HasResidues-right_side}
use Rattle.equation.proofs.UnitPivots.{units_by_rows}
use Rattle.equation.proofs.ValidForms.{known_structure, work-valid, sylvester-triangular}

-- ---- sums and differences of residues as congruences, and back

pub sum_solved : (m p q r : ℕ) → r ≡ (p % m + q % m) % m → Cong m (p + q) r
sum_solved m p q r e = Cong-sym (Cong-trans (Cong-from_mod e) (Cong-add (Cong-mod m p) (Cong-mod m q)))

sum_solving : (m p q r : ℕ) → r < m → Cong m (p + q) r → (p % m + q % m) % m ≡ r
sum_solving m p q r below h = sym (mod_from_Cong below (Cong-sym (Cong-trans (Cong-add (Cong-mod m p) (Cong-mod m q)) h)))

pub difference_solved : (m p q r : ℕ) → 0 < m → r ≡ (p % m + (m - q % m)) % m → Cong m p (r + q)
difference_solved m p q r pos e =
    let below : q % m < m = mod-lt q pos in
    let h : Cong m (r + q % m) (p % m) = Cong-from_difference (q % m) (p % m + (m - q % m)) e (omega arith) in
    Cong-trans (Cong-sym (Cong-mod m p)) (Cong-trans (Cong-sym h) (Cong-add (Cong-refl m r) (Cong-mod m q)))

difference_solving : (m p q r : ℕ) → r < m → Cong m p (r + q) → (p % m + (m - q % m)) % m ≡ r
difference_solving m p q r r_below h =
    let below : q % m < m = mod-lt q (omega arith) in
    sym (difference_from_Cong (q % m) (p % m + (m - q % m)) r_below
    (Cong-trans (Cong-add (Cong-refl m r) (Cong-mod m q)) (Cong-trans (Cong-sym h) (Cong-sym (Cong-mod m p)))) (omega arith))

module _ (m : ℕ) (two : 2 ≤ m) (op : Operation) (valid : IsValid op) (knowns : List Grid) (work : Grid)
    (none : (place : Place) → ¬ (IsFirstBadPivot m op knowns work place)) (t u : Factor) where
  -- T * X + X * U = R
  module _ (form : op.form ≡ Sylvester t u false) where
    plus_units : (i j : ℕ) → i < work.rows → j < work.cols → IsUnit m (factor_table op knowns t i i + factor_table op knowns u j j)
    plus_units i j row col = IsUnit-Cong m _ (factor_table op knowns t i i + factor_table op knowns u j j) (Cong-mod m (factor_table op knowns t i i + factor_table op knowns u j j))
        (units_by_rows m work.rows work.cols two (plus m (λ a b. factor_pivots op knowns t a) (λ a b. factor_pivots op knowns u b)) (λ place first. none place (rw form first)) i j row col)

    plus_solves : (x : Grid) → Satisfies m op knowns work x → AgreeOn m work.rows work.cols op.work.structure
        (λ i j. product work.rows (factor_table op knowns t) (view op.work.structure (entry x)) i j + product work.cols (view op.work.structure (entry x)) (factor_table op knowns u) i j)
        (right_side m op knowns work)
    plus_solves x is i j within = sum_solved m _ _ _ (sym (is.equation i j within.row within.col within.inside)
        ∙ left_side-plus m op knowns (work-valid op valid) work.rows work.cols x (entry x) is.rows is.cols (λ a b row col. refl) i j within.row within.col t u form)

    pub one_plus : (x y : Grid) → Satisfies m op knowns work x → Satisfies m op knowns work y → x ≡ y
    one_plus x y x_is y_is = same_solution m op knowns work x y x_is y_is
        (sylvester_plus_unique m work.rows work.cols two op.work.structure (work-valid op valid) (factor_table op knowns t) (factor_table op knowns u) _ _
        (IsTriangle-view t.primed (known_structure op t) work.rows (entry (known_grid knowns t.known)) (sylvester-triangular op valid t u false form).0)
        (IsTriangle-view_transposed u.primed (known_structure op u) work.cols (entry (known_grid knowns u.known)) (sylvester-triangular op valid t u false form).1)
        plus_units (right_side m op knowns work) (entry x) (entry y) (plus_solves x x_is) (plus_solves y y_is))

    pub some_plus : AreResidues m work → (x : Grid) × Satisfies m op knowns work x
    some_plus residues = solution_grid m op knowns work
        (λ a i j. Cong m (product work.rows (factor_table op knowns t) (view op.work.structure a) i j + product work.cols (view op.work.structure a) (factor_table op knowns u) i j)
        (right_side m op knowns work i j)) (omega arith) residues
        (sylvester_plus_solution m work.rows work.cols two op.work.structure (work-valid op valid) (factor_table op knowns t) (factor_table op knowns u) _ _
        (IsTriangle-view t.primed (known_structure op t) work.rows (entry (known_grid knowns t.known)) (sylvester-triangular op valid t u false form).0)
        (IsTriangle-view_transposed u.primed (known_structure op u) work.cols (entry (known_grid knowns u.known)) (sylvester-triangular op valid t u false form).1)
        plus_units (right_side m op knowns work) (entry work))
        (λ x rows cols has i j within holds.
        left_side-plus m op knowns (work-valid op valid) work.rows work.cols x _ rows cols has i j within.row within.col t u form
        ∙ sum_solving m _ _ _ (HasResidues-right_side m op knowns work (omega arith) residues i j) holds)

  -- T * X - X * U = R
  module _ (form : op.form ≡ Sylvester t u true) (u_residues : AreResidues m (known_grid knowns u.known)) where
    abbrev differences : Table
    differences = minus m (λ a b. factor_pivots op knowns t a) (λ a b. factor_pivots op knowns u b)

    minus_units : (i j : ℕ) → i < work.rows → j < work.cols → IsUnit m (differences i j)
    minus_units = units_by_rows m work.rows work.cols two differences (λ place first. none place (rw form first))

    are_differences : (i j : ℕ) → i < work.rows → j < work.cols → Cong m (differences i j + factor_table op knowns u j j) (factor_table op knowns t i i)
    are_differences i j row col =
        let below : factor_table op knowns u j j < m = HasResidues-factor m op knowns u two u_residues j j in
        Cong-from_difference (factor_table op knowns u j j) (factor_table op knowns t i i + (m - factor_table op knowns u j j)) refl (omega arith)

    minus_solves : (x : Grid) → Satisfies m op knowns work x → AgreeOn m work.rows work.cols op.work.structure
        (product work.rows (factor_table op knowns t) (view op.work.structure (entry x)))
        (λ i j. right_side m op knowns work i j + product work.cols (view op.work.structure (entry x)) (factor_table op knowns u) i j)
    minus_solves x is i j within = difference_solved m _ _ _ (omega arith) (sym (is.equation i j within.row within.col within.inside)
        ∙ left_side-minus m op knowns (work-valid op valid) work.rows work.cols x (entry x) is.rows is.cols (λ a b row col. refl) i j within.row within.col t u form)

    pub one_minus : (x y : Grid) → Satisfies m op knowns work x → Satisfies m op knowns work y → x ≡ y
    one_minus x y x_is y_is = same_solution m op knowns work x y x_is y_is
        (sylvester_minus_unique m work.rows work.cols two op.work.structure (work-valid op valid) (factor_table op knowns t) (factor_table op knowns u) _ _
        (IsTriangle-view t.primed (known_structure op t) work.rows (entry (known_grid knowns t.known)) (sylvester-triangular op valid t u true form).0)
        (IsTriangle-view_transposed u.primed (known_structure op u) work.cols (entry (known_grid knowns u.known)) (sylvester-triangular op valid t u true form).1)
        differences are_differences minus_units (right_side m op knowns work) (entry x) (entry y) (minus_solves x x_is) (minus_solves y y_is))

    pub some_minus : AreResidues m work → (x : Grid) × Satisfies m op knowns work x
    some_minus residues = solution_grid m op knowns work
        (λ a i j. Cong m (product work.rows (factor_table op knowns t) (view op.work.structure a) i j)
        (right_side m op knowns work i j + product work.cols (view op.work.structure a) (factor_table op knowns u) i j)) (omega arith) residues
        (sylvester_minus_solution m work.rows work.cols two op.work.structure (work-valid op valid) (factor_table op knowns t) (factor_table op knowns u) _ _
        (IsTriangle-view t.primed (known_structure op t) work.rows (entry (known_grid knowns t.known)) (sylvester-triangular op valid t u true form).0)
        (IsTriangle-view_transposed u.primed (known_structure op u) work.cols (entry (known_grid knowns u.known)) (sylvester-triangular op valid t u true form).1)
        differences are_differences minus_units (right_side m op knowns work) (entry work))
        (λ x rows cols has i j within holds.
        left_side-minus m op knowns (work-valid op valid) work.rows work.cols x _ rows cols has i j within.row within.col t u form
        ∙ difference_solving m _ _ _ (HasResidues-right_side m op knowns work (omega arith) residues i j) holds)
