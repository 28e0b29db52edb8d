-- The view of a factor's matrix: the table that it reads, and its sizes.
use Rattle.std.proofs.Common.{◌≡◌, ℕ, ◌<◌, List, length, cond, ◌∙◌, refl}
use Rattle.residue_sums.specs.Grids.{Grid}
use Rattle.operation_spec.specs.declared.operation.Operation.{Operation}
use Rattle.operation_spec.specs.declared.operation.Factor.{Factor}
use Rattle.operation_spec.specs.declared.operation.Binding.{Binding}
use Rattle.operation_spec.specs.ValidOperations.{IsValid}
use Rattle.equation.specs.declared.views.FactorView.{FactorView}
use Rattle.equation.specs.Candidates.{IsViewOf, view_cols, view_rows, view_table}
use Rattle.equation.specs.Equations.{factor_table, known_grid}
use Rattle.equation.specs.Jobs.{Fits, known_grids}
use Rattle.equation.proofs.FactorSizes.{triangle_cols, triangle_rows}
use Rattle.equation.proofs.ValidForms.{IsTriangleOn}

module _ (m : ℕ) (op : Operation) (knowns : List Grid) (f : Factor) (v : FactorView) (is : IsViewOf m op knowns f v) where
  pub view_is : view_table v ≡ factor_table op knowns f
  view_is = rw (is.matrix, is.structure, is.primed) refl

  pub view_rows_are : view_rows v ≡ cond f.primed (known_grid knowns f.known).cols (known_grid knowns f.known).rows
  view_rows_are = rw (is.matrix, is.primed) refl

  pub view_cols_are : view_cols v ≡ cond f.primed (known_grid knowns f.known).rows (known_grid knowns f.known).cols
  view_cols_are = rw (is.matrix, is.primed) refl

-- a triangular factor of a form is square
module _ (m : ℕ) (op : Operation) (grids : List Grid) (bind : Binding) (valid : IsValid op) (fits : Fits op grids bind) (dim : ℕ) (t : Factor)
    (known : t.known < length op.knowns) (on : IsTriangleOn op dim t) (v : FactorView) (is : IsViewOf m op (known_grids grids bind) t v) where
  pub triangle_view_rows : view_rows v ≡ fits.lengths dim
  triangle_view_rows = view_rows_are m op (known_grids grids bind) t v is ∙ triangle_rows op grids bind valid fits dim t known on t.primed

  pub triangle_view_cols : view_cols v ≡ fits.lengths dim
  triangle_view_cols = view_cols_are m op (known_grids grids bind) t v is ∙ triangle_cols op grids bind valid fits dim t known on t.primed
