-- The left sides of the forms with triangular factors, over a table that holds the entries of the stored matrix, as exact products.
-- Cited where a statement has one solution, and has one at all.
use Rattle.std.proofs.Common.{◌≡◌, ℕ, ◌+◌, ◌-◌, ◌%◌, ◌<◌, List, true, false, refl, ap, ap₂, ◌∙◌}
use Rattle.residue_sums.specs.Tables.{Table, product, times}
use Rattle.residue_sums.specs.Grids.{Grid, HasEntries}
use Rattle.structure_rules.specs.Structures.{view, IsWorkStructure}
use Rattle.matrix_algebra.proofs.Products.{product-same}
use Rattle.operation_spec.specs.declared.operation.Operation.{Operation}
use Rattle.operation_spec.specs.declared.operation.Factor.{Factor}
use Rattle.operation_spec.specs.declared.operation.Form.TheVariants.{Left, Right, Sylvester}
use Rattle.equation.specs.Equations.{left_side, factor_table, solution_table}
use Rattle.equation.proofs.SolvedGrids.{solution_table-view}

module _ (m : ℕ) (op : Operation) (knowns : List Grid) (work_structure : IsWorkStructure op.work.structure) (rows cols : ℕ)
    (x : Grid) (a : Table) (rows_are : x.rows ≡ rows) (cols_are : x.cols ≡ cols) (has : HasEntries x a) where
  solution_is : (i j : ℕ) → i < rows → j < cols → solution_table op x i j ≡ view op.work.structure a i j
  solution_is i j row col = solution_table-view op x a i j work_structure (has i j (rw rows_are row) (rw cols_are col))

  module _ (i j : ℕ) (row : i < rows) (col : j < cols) where
    -- a product with a factor on the left, and with one on the right
    factor_first : (t : Table) → times m x.rows t (solution_table op x) i j ≡ product rows t (view op.work.structure a) i j % m
    factor_first t =
        ap (λ (n : ℕ). times m n t (solution_table op x) i j) rows_are
        ∙ ap (λ (p : ℕ). p % m) (product-same rows t (solution_table op x) t (view op.work.structure a) i j (λ k h. refl) (λ k h. solution_is k j h col))

    factor_second : (u : Table) → times m x.cols (solution_table op x) u i j ≡ product cols (view op.work.structure a) u i j % m
    factor_second u =
        ap (λ (n : ℕ). times m n (solution_table op x) u i j) cols_are
        ∙ ap (λ (p : ℕ). p % m) (product-same cols (solution_table op x) u (view op.work.structure a) u i j (λ k h. solution_is i k row h) (λ k h. refl))

    pub left_side-left : (t : Factor) → op.form ≡ Left t
        → left_side m op knowns x i j ≡ product rows (factor_table op knowns t) (view op.work.structure a) i j % m
    left_side-left t form = rw form (factor_first (factor_table op knowns t))

    pub left_side-right : (t : Factor) → op.form ≡ Right t
        → left_side m op knowns x i j ≡ product cols (view op.work.structure a) (factor_table op knowns t) i j % m
    left_side-right t form = rw form (factor_second (factor_table op knowns t))

    pub left_side-plus : (t u : Factor) → op.form ≡ Sylvester t u false
        → left_side m op knowns x i j ≡ (product rows (factor_table op knowns t) (view op.work.structure a) i j % m
        + product cols (view op.work.structure a) (factor_table op knowns u) i j % m) % m
    left_side-plus t u form = rw form (ap₂ (λ (p q : ℕ). (p + q) % m) (factor_first (factor_table op knowns t)) (factor_second (factor_table op knowns u)))

    pub left_side-minus : (t u : Factor) → op.form ≡ Sylvester t u true
        → left_side m op knowns x i j ≡ (product rows (factor_table op knowns t) (view op.work.structure a) i j % m
        + (m - product cols (view op.work.structure a) (factor_table op knowns u) i j % m)) % m
    left_side-minus t u form = rw form (ap₂ (λ (p q : ℕ). (p + (m - q)) % m) (factor_first (factor_table op knowns t)) (factor_second (factor_table op knowns u)))
