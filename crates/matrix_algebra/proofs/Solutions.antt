-- The equations T * X = R, X * U = R, T * X + X * U = R and T * X - X * U = R with triangular T and U have just one solution each,
-- where their pivots are units. Cited by the one solution of a statement.
--
-- X is read through its structure, general, lower or upper, and the equation is required on the entries of that structure. A
-- triangular view is an `IsTriangle` by `IsTriangle-view`, and the transpose of one by `IsTriangle-view_transposed`.
use Rattle.std.proofs.Common.{◌≡◌, ◌≢◌, ℕ, ◌+◌, ◌*◌, ◌-◌, ◌<◌, ◌≤◌, ◌⊎◌, inl, inr, arith}
use Rattle.residue_sums.specs.Residues.{Cong, IsUnit}
use Rattle.residue_sums.specs.Tables.{Table, transpose, product}
use Rattle.residue_sums.proofs.Congruence.{Cong-sym, Cong-trans, IsUnit-Cong}
use Rattle.structure_rules.specs.declared.Structure.{Structure}
use Rattle.structure_rules.specs.Structures.{view, IsEntry, IsWorkStructure}
use Rattle.structure_rules.proofs.Views.{IsEntry-or_not}
use Rattle.matrix_algebra.proofs.Substitution.{IsSystem, Solution, solution-unique, solution}
use Rattle.matrix_algebra.proofs.Systems.{IsSystem-left, IsSystem-right, IsSystem-sylvester_plus, IsSystem-sylvester_minus, Cong-to_negative, Cong-from_negative}
use Rattle.matrix_algebra.proofs.Triangles.{IsTriangle}

-- two tables agree on the entries of a structure
abbrev pub AgreeOn : ℕ → ℕ → ℕ → Structure → Table → Table → Type 0
AgreeOn m rows cols s x y = (i j : ℕ) → IsEntry rows cols s i j → Cong m (x i j) (y i j)

module _ (m rows cols : ℕ) (two : 2 ≤ m) (s : Structure) (work : IsWorkStructure s) where
  -- T * X = R
  module _ (t : Table) (order : ℕ → ℕ) (triangle : IsTriangle rows order t) (units : (i : ℕ) → i < rows → IsUnit m (t i i)) where
    left_system : IsSystem m (IsEntry rows cols s) (λ i j. order i) (λ x. product rows t (view s x)) (λ x i j. t i i)
    left_system = IsSystem-left m rows cols s work (λ i j. order i) t (λ i k j row row' col apart. triangle.earlier i k row row' apart)

    pub left_unique : (right x y : Table)
        → AgreeOn m rows cols s (product rows t (view s x)) right → AgreeOn m rows cols s (product rows t (view s y)) right
        → AgreeOn m rows cols s x y
    left_unique right x y x_solves y_solves =
        solution-unique _ _ _ _ _ left_system two x y (λ i j entry. units i entry.row)
        (λ i j entry. Cong-trans (x_solves i j entry) (Cong-sym (y_solves i j entry)))

    pub left_solution : (right other : Table)
        → Solution m (IsEntry rows cols s) (λ x i j. Cong m (product rows t (view s x) i j) (right i j)) other
    left_solution right other =
        solution _ _ _ _ _ left_system right other two (IsEntry-or_not rows cols s) (λ x i j entry before. units i entry.row)

  -- X * U = R
  module _ (u : Table) (order : ℕ → ℕ) (triangle : IsTriangle cols order (transpose u)) (units : (j : ℕ) → j < cols → IsUnit m (u j j)) where
    right_system : IsSystem m (IsEntry rows cols s) (λ i j. order j) (λ x. product cols (view s x) u) (λ x i j. u j j)
    right_system = IsSystem-right m rows cols s work (λ i j. order j) u (λ i k j row col' col apart. triangle.earlier j k col col' apart)

    pub right_unique : (right x y : Table)
        → AgreeOn m rows cols s (product cols (view s x) u) right → AgreeOn m rows cols s (product cols (view s y) u) right
        → AgreeOn m rows cols s x y
    right_unique right x y x_solves y_solves =
        solution-unique _ _ _ _ _ right_system two x y (λ i j entry. units j entry.col)
        (λ i j entry. Cong-trans (x_solves i j entry) (Cong-sym (y_solves i j entry)))

    pub right_solution : (right other : Table)
        → Solution m (IsEntry rows cols s) (λ x i j. Cong m (product cols (view s x) u i j) (right i j)) other
    right_solution right other =
        solution _ _ _ _ _ right_system right other two (IsEntry-or_not rows cols s) (λ x i j entry before. units j entry.col)

module _ (m rows cols : ℕ) (two : 2 ≤ m) (s : Structure) (work : IsWorkStructure s) (t u : Table) (row_order col_order : ℕ → ℕ)
    (t_triangle : IsTriangle rows row_order t) (u_triangle : IsTriangle cols col_order (transpose u)) where
  sylvester_place : Table
  sylvester_place i j = row_order i + col_order j

  reads_rows : (i k j : ℕ) → i < rows → k < rows → j < cols → k ≢ i → (t i k ≡ 0) ⊎ (sylvester_place k j < sylvester_place i j)
  unfolding sylvester_place
  reads_rows i k j row row' col apart = elim (t_triangle.earlier i k row row' apart) [ inl none ↦ inl none | inr before ↦ inr (omega arith) ]

  reads_cols : (i k j : ℕ) → i < rows → k < cols → j < cols → k ≢ j → (u k j ≡ 0) ⊎ (sylvester_place i k < sylvester_place i j)
  unfolding sylvester_place
  reads_cols i k j row col' col apart = elim (u_triangle.earlier j k col col' apart) [ inl none ↦ inl none | inr before ↦ inr (omega arith) ]

  -- T * X + X * U = R
  module _ (units : (i j : ℕ) → i < rows → j < cols → IsUnit m (t i i + u j j)) where
    plus_system : IsSystem m (IsEntry rows cols s) sylvester_place
        (λ x i j. product rows t (view s x) i j + product cols (view s x) u i j) (λ x i j. t i i + u j j)
    plus_system = IsSystem-sylvester_plus m rows cols s work sylvester_place t u reads_rows reads_cols

    pub sylvester_plus_unique : (right x y : Table)
        → AgreeOn m rows cols s (λ i j. product rows t (view s x) i j + product cols (view s x) u i j) right
        → AgreeOn m rows cols s (λ i j. product rows t (view s y) i j + product cols (view s y) u i j) right
        → AgreeOn m rows cols s x y
    sylvester_plus_unique right x y x_solves y_solves =
        solution-unique _ _ _ _ _ plus_system two x y (λ i j entry. units i j entry.row entry.col)
        (λ i j entry. Cong-trans (x_solves i j entry) (Cong-sym (y_solves i j entry)))

    pub sylvester_plus_solution : (right other : Table)
        → Solution m (IsEntry rows cols s) (λ x i j. Cong m (product rows t (view s x) i j + product cols (view s x) u i j) (right i j)) other
    sylvester_plus_solution right other =
        solution _ _ _ _ _ plus_system right other two (IsEntry-or_not rows cols s) (λ x i j entry before. units i j entry.row entry.col)

  -- T * X - X * U = R, with the products that are subtracted on the other side; d has the differences of the diagonals
  module _ (d : Table) (differences : (i j : ℕ) → i < rows → j < cols → Cong m (d i j + u j j) (t i i))
      (units : (i j : ℕ) → i < rows → j < cols → IsUnit m (d i j)) where
    minus_pivot : (i j : ℕ) → i < rows → j < cols → IsUnit m (t i i + (m - 1) * u j j)
    minus_pivot i j row col = IsUnit-Cong m (d i j) (t i i + (m - 1) * u j j)
        (Cong-sym (Cong-to_negative m (t i i) (u j j) (d i j) two (Cong-sym (differences i j row col)))) (units i j row col)

    minus_system : IsSystem m (IsEntry rows cols s) sylvester_place
        (λ x i j. product rows t (view s x) i j + (m - 1) * product cols (view s x) u i j) (λ x i j. t i i + (m - 1) * u j j)
    minus_system = IsSystem-sylvester_minus m rows cols s work sylvester_place t u reads_rows reads_cols

    -- a solution of the equation solves the system
    to_system : (right x : Table) → AgreeOn m rows cols s (product rows t (view s x)) (λ i j. right i j + product cols (view s x) u i j)
        → AgreeOn m rows cols s (λ i j. product rows t (view s x) i j + (m - 1) * product cols (view s x) u i j) right
    to_system right x solves i j entry =
        Cong-to_negative m (product rows t (view s x) i j) (product cols (view s x) u i j) (right i j) two (solves i j entry)

    pub sylvester_minus_unique : (right x y : Table)
        → AgreeOn m rows cols s (product rows t (view s x)) (λ i j. right i j + product cols (view s x) u i j)
        → AgreeOn m rows cols s (product rows t (view s y)) (λ i j. right i j + product cols (view s y) u i j)
        → AgreeOn m rows cols s x y
    sylvester_minus_unique right x y x_solves y_solves =
        solution-unique _ _ _ _ _ minus_system two x y (λ i j entry. minus_pivot i j entry.row entry.col)
        (λ i j entry. Cong-trans (to_system right x x_solves i j entry) (Cong-sym (to_system right y y_solves i j entry)))

    pub sylvester_minus_solution : (right other : Table)
        → Solution m (IsEntry rows cols s) (λ x i j. Cong m (product rows t (view s x) i j) (right i j + product cols (view s x) u i j)) other
    sylvester_minus_solution right other =
        let found = solution _ _ _ _ _ minus_system right other two (IsEntry-or_not rows cols s) (λ x i j entry before. minus_pivot i j entry.row entry.col) in
        record {
          table = found.table;
          solves = λ i j entry. Cong-from_negative m (product rows t (view s found.table) i j) (product cols (view s found.table) u i j) (right i j) two
              (found.solves i j entry);
          residues = found.residues;
          kept = found.kept;
        }
