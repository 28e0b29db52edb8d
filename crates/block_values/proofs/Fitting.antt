-- What proofs use of the sizes of a setting, by the numbers of dimensions, and that a setting has it.
use Rattle.std.proofs.Common.{◌≡◌, ◌≢◌, ℕ, zero, suc, ◌<◌, Bool, true, false, if◌then◌else◌, List, [], ◌∷◌, length, Contains, refl, sym, ◌∙◌, cond, arith, add-one}
use Rattle.residue_sums.specs.Residues.{IsModulus}
use Rattle.residue_sums.specs.Grids.{entry}
use Rattle.structure_rules.specs.declared.Structure.TheVariants.{General, Lower}
use Rattle.structure_rules.specs.Structures.{IsTriangular}
use Rattle.operation_spec.specs.declared.operation.Operation.{Operation}
use Rattle.operation_spec.specs.declared.operation.Operand.{Operand}
use Rattle.operation_spec.specs.declared.operation.Factor.{Factor}
use Rattle.operation_spec.specs.declared.operation.Term.{Term}
use Rattle.operation_spec.specs.declared.operation.Form.TheVariants.{Left, Right, Sylvester, Ldl}
use Rattle.operation_spec.specs.ValidOperations.{IsOperand}
use Rattle.operation_spec.specs.Equations.{Size, size_of, side_of_factor}
use Rattle.equation.specs.Equations as equations
use Rattle.equation.specs.Equations.{known_grid}
use Rattle.equation.specs.Jobs.{HasLengths}
use Rattle.equation.proofs.AssignedGrids.{HasResidues-entry}
use Rattle.equation.proofs.FactorSizes.{term_knowns, term_sizes, left_known, right_known, sylvester_knowns}
use Rattle.equation.proofs.ValidForms.{IsTriangleOn, left-on, right-on, sylvester-on, ldl-lower}
use Rattle.task_graph.specs.Factors.{known, factor_cols}
use Rattle.block_values.specs.Cuts.{IsCut}
use Rattle.block_values.specs.Values.{Setting}
use Rattle.block_values.specs.Settings.{IsSetting}

abbrev pub factor_rows : Operation → Factor → ℕ
factor_rows op f = if f.primed then (known op f.known).cols else (known op f.known).rows

-- the operand is square unless it is general
abbrev pub IsSquare : Operation → Factor → Type 0
IsSquare op f = (known op f.known).structure ≢ General → (known op f.known).rows ≡ (known op f.known).cols

-- the sizes of a term's factors agree with W, and its matrices have these sizes
pub record TermFits (s : Setting) (lengths : ℕ → ℕ) (term : Term) : Type 0 where
  pub rows : factor_rows s.op term.first ≡ s.op.work.rows
  pub inner : factor_rows s.op term.second ≡ factor_cols s.op term.first
  pub cols : factor_cols s.op term.second ≡ s.op.work.cols
  pub first_square : IsSquare s.op term.first
  pub second_square : IsSquare s.op term.second
  pub inner_dim : factor_cols s.op term.first < length s.op.dims
  pub inner_length : equations.factor_cols s.knowns term.first ≡ lengths (factor_cols s.op term.first)

abbrev pub AllFit : Setting → (ℕ → ℕ) → List Term → Type 0
AllFit s lengths [] = Unit {0}
AllFit s lengths (term ∷ terms) = TermFits s lengths term × AllFit s lengths terms

-- a triangular factor on dimension d
pub record FactorFits (s : Setting) (d : ℕ) (t : Factor) : Type 0 where
  pub rows : factor_rows s.op t ≡ d
  pub cols : factor_cols s.op t ≡ d
  pub square : IsSquare s.op t

-- the matrices of a setting fit its operation, and its parts are a cut of their sizes
pub record IsFitting (s : Setting) (lengths : ℕ → ℕ) (counts : List ℕ) : Type 0 where
  pub pos : 0 < s.modulus
  pub cut : IsCut (length s.op.dims) lengths counts s.starts
  pub terms : AllFit s lengths s.op.terms
  pub work_residues : (r c : ℕ) → entry s.work r c < s.modulus
  pub rows : s.solution.rows ≡ lengths s.op.work.rows
  pub cols : s.solution.cols ≡ lengths s.op.work.cols
  pub row_dim : s.op.work.rows < length s.op.dims
  pub col_dim : s.op.work.cols < length s.op.dims
  pub square : s.op.work.structure ≢ General → s.op.work.rows ≡ s.op.work.cols

-- ---- the sizes of op(F)

abbrev exchanged : Bool → Operand → Size
exchanged primed o = cond primed (record { rows = o.cols; cols = o.rows }) (record { rows = o.rows; cols = o.cols })

exchanged-rows : (primed : Bool) (o : Operand) → (exchanged primed o).rows ≡ (if primed then o.cols else o.rows)
exchanged-rows true o = refl
exchanged-rows false o = refl

exchanged-cols : (primed : Bool) (o : Operand) → (exchanged primed o).cols ≡ (if primed then o.rows else o.cols)
exchanged-cols true o = refl
exchanged-cols false o = refl

size-rows : (op : Operation) (f : Factor) → (size_of op.work op.knowns (side_of_factor f)).rows ≡ factor_rows op f
size-rows op f = rw add-one (exchanged-rows f.primed (known op f.known))

size-cols : (op : Operation) (f : Factor) → (size_of op.work op.knowns (side_of_factor f)).cols ≡ factor_cols op f
size-cols op f = rw add-one (exchanged-cols f.primed (known op f.known))

module _ (s : Setting) (counts : List ℕ) (is : IsSetting s counts) where
  work_operand : IsOperand s.op.dims s.op.work
  work_operand = is.valid.operands zero s.op.work (omega arith)

  known_operand : (k : ℕ) → k < length s.op.knowns → IsOperand s.op.dims (known s.op k)
  known_operand k below = is.valid.operands (suc k) s.op.work (omega arith)

  -- ---- terms

  inner_dim_below : (f : Factor) → f.known < length s.op.knowns → factor_cols s.op f < length s.op.dims
  inner_dim_below f below = go f.primed
    where
      own : IsOperand s.op.dims (known s.op f.known)
      own = known_operand f.known below

      go : (primed : Bool) → (if primed then (known s.op f.known).rows else (known s.op f.known).cols) < length s.op.dims
      go true = own.rows
      go false = own.cols

  inner_length_is : (f : Factor) → f.known < length s.op.knowns → equations.factor_cols s.knowns f ≡ is.lengths (factor_cols s.op f)
  inner_length_is f below = go f.primed
    where
      has : HasLengths is.lengths (known s.op f.known) (known_grid s.knowns f.known)
      has = is.knowns f.known below

      go : (primed : Bool) → (if primed then (known_grid s.knowns f.known).rows else (known_grid s.knowns f.known).cols)
          ≡ is.lengths (if primed then (known s.op f.known).rows else (known s.op f.known).cols)
      go true = has.rows
      go false = has.cols

  term_fits : (term : Term) → Contains s.op.terms term → TermFits s is.lengths term
  term_fits term among =
      let known_in = term_knowns s.op is.valid term among in
      let sizes = term_sizes s.op is.valid term among in
      let first : IsOperand s.op.dims (known s.op term.first.known) = known_operand term.first.known known_in.0 in
      let second : IsOperand s.op.dims (known s.op term.second.known) = known_operand term.second.known known_in.1 in
      record {
        rows = sym (size-rows s.op term.first) ∙ sizes.1;
        inner = sym (size-rows s.op term.second) ∙ sym sizes.0 ∙ size-cols s.op term.first;
        cols = sym (size-cols s.op term.second) ∙ sizes.2;
        first_square = first.square;
        second_square = second.square;
        inner_dim = inner_dim_below term.first known_in.0;
        inner_length = inner_length_is term.first known_in.0;
      }

  all_fit : (terms : List Term) → ((term : Term) → Contains terms term → Contains s.op.terms term) → AllFit s is.lengths terms
  all_fit [] among = tt
  all_fit (term ∷ terms) among =
      (term_fits term (among term (zero, omega arith, refl)), all_fit terms (λ other in_rest. among other (suc in_rest.0, omega (arith, in_rest.1), in_rest.2)))

  -- ---- the whole

  pub IsFitting-setting : IsFitting s is.lengths counts
  IsFitting-setting = record {
    pos = positive;
    cut = is.cut;
    terms = all_fit s.op.terms (λ term among. among);
    work_residues = HasResidues-entry s.modulus s.work positive is.work_residues;
    rows = is.solution.rows;
    cols = is.solution.cols;
    row_dim = work_operand.rows;
    col_dim = work_operand.cols;
    square = work_operand.square;
  }
    where
      positive : 0 < s.modulus
      positive = let two : IsModulus s.modulus = is.modulus in omega (arith, two.at_least_two)

  -- ---- triangular factors of the form

  triangle_fits : (dim : ℕ) (f : Factor) → f.known < length s.op.knowns → IsTriangleOn s.op dim f → FactorFits s dim f
  triangle_fits dim f below on = record { rows = row f.primed; cols = col f.primed; square = own.square }
    where
      own : IsOperand s.op.dims (known s.op f.known)
      own = known_operand f.known below

      not_general : (known s.op f.known).structure ≢ General
      not_general e = let triangular : IsTriangular (known s.op f.known).structure = on.triangular in rw e at triangular

      cols_are : (known s.op f.known).cols ≡ dim
      cols_are = sym (own.square not_general) ∙ on.rows

      row : (primed : Bool) → (if primed then (known s.op f.known).cols else (known s.op f.known).rows) ≡ dim
      row true = cols_are
      row false = on.rows

      col : (primed : Bool) → (if primed then (known s.op f.known).rows else (known s.op f.known).cols) ≡ dim
      col true = on.rows
      col false = cols_are

  pub left_fits : (t : Factor) → s.op.form ≡ Left t → FactorFits s s.op.work.rows t
  left_fits t form = triangle_fits s.op.work.rows t (left_known s.op is.valid t form) (left-on s.op is.valid t form)

  pub right_fits : (t : Factor) → s.op.form ≡ Right t → FactorFits s s.op.work.cols t
  right_fits t form = triangle_fits s.op.work.cols t (right_known s.op is.valid t form) (right-on s.op is.valid t form)

  pub sylvester_fit : (t u : Factor) (negative : Bool) → s.op.form ≡ Sylvester t u negative
      → FactorFits s s.op.work.rows t × FactorFits s s.op.work.cols u
  sylvester_fit t u negative form =
      let known_in = sylvester_knowns s.op is.valid t u negative form in
      let on = sylvester-on s.op is.valid t u negative form in
      (triangle_fits s.op.work.rows t known_in.0 on.0, triangle_fits s.op.work.cols u known_in.1 on.1)

  pub ldl_square : s.op.form ≡ Ldl → s.op.work.rows ≡ s.op.work.cols
  ldl_square form = work_operand.square (λ e. lower_general (sym (ldl-lower s.op is.valid form) ∙ e))
    where
      lower_general : Lower ≡ General → ⊥
      lower_general e = cc
