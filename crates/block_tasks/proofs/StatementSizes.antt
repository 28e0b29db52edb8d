-- The sizes of the factors of a valid operation that fits matrices, and of their parts. Cited where a statement of a job is brought to its
-- block tasks.
use Rattle.std.proofs.Common.{◌≡◌, ◌≢◌, ℕ, zero, suc, ◌+◌, ◌<◌, ◌≤◌, Bool, true, false, if◌then◌else◌, List, [], ◌∷◌, length, get_or, Contains, refl, sym, ◌∙◌, ap, subst, arith}
use Rattle.residue_sums.specs.Sums.{part_count}
use Rattle.residue_sums.specs.Grids.{Grid}
use Rattle.structure_rules.specs.declared.Structure.TheVariants.{General}
use Rattle.operation_spec.specs.declared.operation.Operation.{Operation}
use Rattle.operation_spec.specs.declared.operation.Operand.{Operand}
use Rattle.operation_spec.specs.declared.operation.Binding.{Binding}
use Rattle.operation_spec.specs.declared.operation.Factor.{Factor}
use Rattle.operation_spec.specs.declared.operation.Term.{Term}
use Rattle.operation_spec.specs.declared.operation.Form.TheVariants.{Left, Right, Sylvester}
use Rattle.operation_spec.specs.ValidOperations.{IsValid, IsOperand}
use Rattle.task_graph.specs.Tasks.{parts_of}
use Rattle.task_graph.specs.Factors as dims
use Rattle.equation.specs.Equations.{known_grid, factor_cols}
use Rattle.equation.specs.Jobs.{Fits, HasLengths, known_grids, nth_grid}
use Rattle.equation.proofs.FactorSizes.{term_knowns, left_known, right_known, sylvester_knowns, matrix-square, product_rows, product_cols, product_inner, triangle_rows, triangle_cols}
use Rattle.equation.proofs.ValidForms.{IsTriangleOn, left-on, right-on, sylvester-on}
use Rattle.block_tasks.specs.Counts.{AreCounts}
use Rattle.block_tasks.proofs.TermSums.{HasFactor, HasTerm, HasTerms}

module _ (m b : ℕ) (two : 2 ≤ m) (pos : 0 < b) (op : Operation) (valid : IsValid op) (grids : List Grid) (bind : Binding) (fits : Fits op grids bind)
    (counts : List ℕ) (are : AreCounts b (length op.dims) fits.lengths counts) where
  abbrev knowns : List Grid
  knowns = known_grids grids bind

  abbrev work : Grid
  work = nth_grid grids bind.work

  -- an operand's dimensions are dimensions
  work_operand : IsOperand op.dims op.work
  work_operand = valid.operands zero op.work (omega arith)

  known_operand : (k : ℕ) → k < length op.knowns → IsOperand op.dims (get_or op.knowns k op.work)
  known_operand k known = valid.operands (suc k) op.work (omega arith)

  pub rows_are : parts_of counts op.work.rows ≡ part_count work.rows b
  rows_are = are op.work.rows work_operand.rows ∙ ap (λ (n : ℕ). part_count n b) (sym fits.work.rows)

  pub cols_are : parts_of counts op.work.cols ≡ part_count work.cols b
  cols_are = are op.work.cols work_operand.cols ∙ ap (λ (n : ℕ). part_count n b) (sym fits.work.cols)

  -- ---- the triangular factors of the forms

  triangle : (dim : ℕ) (f : Factor) → f.known < length op.knowns → IsTriangleOn op dim f → HasFactor op b knowns pos f (fits.lengths dim) (fits.lengths dim)
  triangle dim f known on = record {
    rows_are = triangle_rows op grids bind valid fits dim f known on f.primed;
    cols_are = triangle_cols op grids bind valid fits dim f known on f.primed;
    square = matrix-square op grids bind valid fits f.known known;
  }

  on_rows : (f : Factor) → f.known < length op.knowns → IsTriangleOn op op.work.rows f → HasFactor op b knowns pos f work.rows work.rows
  on_rows f known on = rw fits.work.rows (triangle op.work.rows f known on)

  on_cols : (f : Factor) → f.known < length op.knowns → IsTriangleOn op op.work.cols f → HasFactor op b knowns pos f work.cols work.cols
  on_cols f known on = rw fits.work.cols (triangle op.work.cols f known on)

  pub left-factor : (t : Factor) → op.form ≡ Left t → HasFactor op b knowns pos t work.rows work.rows
  left-factor t form = on_rows t (left_known op valid t form) (left-on op valid t form)

  pub right-factor : (t : Factor) → op.form ≡ Right t → HasFactor op b knowns pos t work.cols work.cols
  right-factor t form = on_cols t (right_known op valid t form) (right-on op valid t form)

  pub sylvester-factors : (t u : Factor) (negative : Bool) → op.form ≡ Sylvester t u negative
      → HasFactor op b knowns pos t work.rows work.rows × HasFactor op b knowns pos u work.cols work.cols
  sylvester-factors t u negative form =
      let known = sylvester_knowns op valid t u negative form in
      let on = sylvester-on op valid t u negative form in
      (on_rows t known.0 on.0, on_cols u known.1 on.1)

  -- ---- the factors of the terms

  inner-parts : (f : Factor) → f.known < length op.knowns → parts_of counts (dims.factor_cols op f) ≡ part_count (factor_cols knowns f) b
  inner-parts f known = go f.primed
    where
      has : HasLengths fits.lengths (get_or op.knowns f.known op.work) (known_grid knowns f.known)
      has = fits.knowns f.known known

      own : IsOperand op.dims (get_or op.knowns f.known op.work)
      own = known_operand f.known known

      go : (primed : Bool) → parts_of counts (if primed then (get_or op.knowns f.known op.work).rows else (get_or op.knowns f.known op.work).cols)
          ≡ part_count (if primed then (known_grid knowns f.known).rows else (known_grid knowns f.known).cols) b
      go true = are (get_or op.knowns f.known op.work).rows own.rows ∙ ap (λ (n : ℕ). part_count n b) (sym has.rows)
      go false = are (get_or op.knowns f.known op.work).cols own.cols ∙ ap (λ (n : ℕ). part_count n b) (sym has.cols)

  one-term : (term : Term) → Contains op.terms term → HasTerm m b two pos op knowns work counts rows_are cols_are term
  one-term term among =
      let known = term_knowns op valid term among in
      record {
        first = record {
          rows_are = product_rows op grids bind valid fits term among;
          cols_are = refl;
          square = matrix-square op grids bind valid fits term.first.known known.0;
        };
        second = record {
          rows_are = product_inner op grids bind valid fits term among;
          cols_are = product_cols op grids bind valid fits term among;
          square = matrix-square op grids bind valid fits term.second.known known.1;
        };
        parts = inner-parts term.first known.0;
      }

  all-terms : (terms : List Term) → ((term : Term) → Contains terms term → Contains op.terms term) → HasTerms m b two pos op knowns work counts rows_are cols_are terms
  all-terms [] among = tt
  all-terms (term ∷ terms) among =
      (one-term term (among term (zero, omega arith, refl)), all-terms terms (λ other in_rest. among other (suc in_rest.0, omega (arith, in_rest.1), in_rest.2)))

  pub terms-have : HasTerms m b two pos op knowns work counts rows_are cols_are op.terms
  terms-have = all-terms op.terms (λ term among. among)
