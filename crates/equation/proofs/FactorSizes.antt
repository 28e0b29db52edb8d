-- What a valid operation says of the matrices that its terms multiply and that its form solves by: which they are, and that their sizes
-- agree. Cited wherever a statement is computed or checked.
use Rattle.std.proofs.Common.{◌≡◌, ◌≢◌, ℕ, zero, suc, ◌<◌, Bool, true, false, List, [], ◌∷◌, length, get_or, map, All, Contains, sym, refl, ap, subst, ◌∙◌, cond, arith, add-one}
use Rattle.std.specs.List.{flat_map, list_all}
use Rattle.std.proofs.lemmas.Bool.{and_parts, eqb-true}
use Rattle.std.proofs.lemmas.List.{get_or-map, get_or_default, get_or_read}
use Rattle.std.proofs.lemmas.List.Elements.{All-get_or, All-head, All-tail}
use Rattle.std.proofs.lemmas.List.Folds.{list_all-map}
use Rattle.std.proofs.lemmas.List.Sums.{AllPass-from_list_all}
use Rattle.residue_sums.specs.Grids.{Grid}
use Rattle.structure_rules.specs.declared.Structure.TheVariants.{General}
use Rattle.structure_rules.specs.Structures.{IsTriangular}
use Rattle.operation_spec.specs.declared.equation.Product.{Product}
use Rattle.operation_spec.specs.declared.operation.Operation.{Operation}
use Rattle.operation_spec.specs.declared.operation.Operand.{Operand}
use Rattle.operation_spec.specs.declared.operation.Factor.{Factor}
use Rattle.operation_spec.specs.declared.operation.Term.{Term}
use Rattle.operation_spec.specs.declared.operation.Binding.{Binding}
use Rattle.operation_spec.specs.declared.operation.Form.TheVariants.{Left, Right, Sylvester}
use Rattle.operation_spec.specs.Equations.{Size, size_of, product_has, left_has, side_of_factor, product_of_term, equation_of_operation}
use Rattle.operation_spec.specs.ValidOperations.{IsValid, IsOperand, factors_of_form}
use Rattle.operation_spec.proofs.ListParts.{All-front, All-behind}
use Rattle.equation.specs.Equations.{known_grid}
use Rattle.equation.specs.Jobs.{Fits, HasLengths, known_grids, nth_grid, no_grid}
use Rattle.equation.proofs.ValidForms.{IsTriangleOn}

abbrev oriented_rows : Bool → Grid → ℕ
oriented_rows primed g = cond primed g.cols g.rows

abbrev oriented_cols : Bool → Grid → ℕ
oriented_cols primed g = cond primed g.rows g.cols

abbrev factors_of_term : Term → List Factor
factors_of_term t = t.first ∷ t.second ∷ []

-- what holds of all factors of some terms holds of those of each of them
All-term_factors : (P : Factor → Type 0) (terms : List Term) → All P (flat_map factors_of_term terms) → (k : ℕ) (d : Term) → k < length terms
    → P (get_or terms k d).first × P (get_or terms k d).second
All-term_factors P [] h k d below = absurd (omega arith)
All-term_factors P (t ∷ terms) h zero d below =
    let behind = All-tail P t.first (t.second ∷ flat_map factors_of_term terms) h in
    (All-head P t.first (t.second ∷ flat_map factors_of_term terms) h, All-head P t.second (flat_map factors_of_term terms) behind)
All-term_factors P (t ∷ terms) h (suc k) d below =
    let behind = All-tail P t.first (t.second ∷ flat_map factors_of_term terms) h in
    All-term_factors P terms (All-tail P t.second (flat_map factors_of_term terms) behind) k d (omega arith)

-- the size of an operand, exchanged where it is primed
abbrev exchanged : Bool → Operand → Size
exchanged primed o = cond primed (record { rows = o.cols; cols = o.rows }) (record { rows = o.rows; cols = o.cols })

exchanged-rows : (primed : Bool) (o : Operand) → (exchanged primed o).rows ≡ cond primed o.cols o.rows
exchanged-rows true o = refl
exchanged-rows false o = refl

exchanged-cols : (primed : Bool) (o : Operand) → (exchanged primed o).cols ≡ cond primed o.rows o.cols
exchanged-cols true o = refl
exchanged-cols false o = refl

module _ (op : Operation) (valid : IsValid op) where
  abbrev operand : ℕ → Operand
  operand k = get_or op.knowns k op.work

  abbrev work_size : Size
  work_size = size_of op.work op.knowns (record { operand = 0; primed = false })

  abbrev has_size : Product → Bool
  has_size p = product_has work_size (size_of op.work op.knowns p.first) (size_of op.work op.knowns p.second)

  abbrev factor_size : Factor → Size
  factor_size f = size_of op.work op.knowns (side_of_factor f)

  factor_size-rows : (f : Factor) → (factor_size f).rows ≡ cond f.primed (operand f.known).cols (operand f.known).rows
  factor_size-rows f = rw add-one (exchanged-rows f.primed (operand f.known))

  factor_size-cols : (f : Factor) → (factor_size f).cols ≡ cond f.primed (operand f.known).rows (operand f.known).cols
  factor_size-cols f = rw add-one (exchanged-cols f.primed (operand f.known))

  -- the factors of a term are known operands
  pub term_knowns : (t : Term) → Contains op.terms t → (t.first.known < length op.knowns) × (t.second.known < length op.knowns)
  term_knowns t among =
      let factors = All-behind (λ f. f.known < length op.knowns) (factors_of_form op.form) (flat_map factors_of_term op.terms) valid.factors in
      rw among.2 at (All-term_factors (λ f. f.known < length op.knowns) op.terms factors among.0 t among.1)

  -- so are those of its form
  form_knowns : All (λ f. f.known < length op.knowns) (factors_of_form op.form)
  form_knowns = All-front (λ f. f.known < length op.knowns) (factors_of_form op.form) (flat_map factors_of_term op.terms) valid.factors

  pub left_known : (t : Factor) → op.form ≡ Left t → t.known < length op.knowns
  left_known t form = All-head (λ f. f.known < length op.knowns) t [] (rw form at form_knowns)

  pub right_known : (t : Factor) → op.form ≡ Right t → t.known < length op.knowns
  right_known t form = All-head (λ f. f.known < length op.knowns) t [] (rw form at form_knowns)

  pub sylvester_knowns : (t u : Factor) (minus : Bool) → op.form ≡ Sylvester t u minus → (t.known < length op.knowns) × (u.known < length op.knowns)
  sylvester_knowns t u minus form =
      let both : All (λ f. f.known < length op.knowns) (t ∷ u ∷ []) = rw form at form_knowns in
      (All-head (λ f. f.known < length op.knowns) t (u ∷ []) both, All-head (λ f. f.known < length op.knowns) u [] (All-tail (λ f. f.known < length op.knowns) t (u ∷ []) both))

  pub term_sizes : (t : Term) → Contains op.terms t → ((factor_size t.first).cols ≡ (factor_size t.second).rows) × ((factor_size t.first).rows ≡ op.work.rows) × ((factor_size t.second).cols ≡ op.work.cols)
  term_sizes t among =
      let products = and_parts (left_has op.work op.knowns work_size (equation_of_operation op).left) (list_all has_size (map product_of_term op.terms)) valid.sizes in
      let terms : list_all (λ u. has_size (product_of_term u)) op.terms ≡ true = sym (list_all-map has_size product_of_term op.terms) ∙ products.1 in
      let here = rw among.2 at (AllPass-from_list_all (λ u. has_size (product_of_term u)) op.terms terms among.0 t among.1) in
      let parts = and_parts _ _ here in
      let fronts = and_parts _ _ parts.0 in
      (eqb-true _ _ fronts.0, eqb-true _ _ fronts.1, eqb-true _ _ parts.1)

-- and of the matrices that the operands are bound to
module _ (op : Operation) (grids : List Grid) (bind : Binding) (valid : IsValid op) (fits : Fits op grids bind) where
  abbrev matrix : ℕ → Grid
  matrix k = known_grid (known_grids grids bind) k

  -- the matrix of a known operand is the one that it is bound to
  pub matrix-is : (k : ℕ) → k < length op.knowns → matrix k ≡ nth_grid grids (get_or bind.knowns k 0)
  matrix-is k known = get_or-map (nth_grid grids) bind.knowns k 0 no_grid (omega (arith, fits.count))

  number_in : (k : ℕ) → k < length op.knowns → get_or bind.knowns k 0 < length grids
  number_in k known = All-get_or (λ n. n < length grids) bind.knowns k 0 (omega (arith, fits.count)) fits.knowns_in

  -- what holds of all matrices holds of it
  pub matrix-has : (P : Grid → Type 0) → All P grids → (k : ℕ) → k < length op.knowns → P (matrix k)
  matrix-has P all k known = subst P (sym (matrix-is k known)) (All-get_or P grids (get_or bind.knowns k 0) no_grid (number_in k known) all)

  -- a matrix that an operand with zeros, ones or mirror images views is square
  pub matrix-square : (k : ℕ) → k < length op.knowns → (get_or op.knowns k op.work).structure ≢ General → (matrix k).rows ≡ (matrix k).cols
  matrix-square k known ne =
      let o : IsOperand op.dims (get_or op.knowns k op.work) = valid.operands (suc k) op.work (omega arith) in
      let has : HasLengths fits.lengths (get_or op.knowns k op.work) (matrix k) = fits.knowns k known in
      has.rows ∙ ap fits.lengths (o.square ne) ∙ sym has.cols

  -- the matrix as it is read
  pub read_matrix : (k : ℕ) → k < length op.knowns → (numbers : List ℕ) (g : Grid) → numbers ≡ bind.knowns → g ≡ get_or grids (get_or numbers k 0) g → g ≡ matrix k
  read_matrix k known numbers g numbers_are read =
      let bound : g ≡ get_or grids (get_or bind.knowns k 0) g = rw numbers_are at read in
      get_or_read grids (get_or bind.knowns k 0) g (number_in k known) bound no_grid ∙ sym (matrix-is k known)

  -- it is square where the operand, as it is read, asks for it
  pub viewed_square : (k : ℕ) → k < length op.knowns → (operands : List Operand) (o : Operand) (numbers : List ℕ) (g : Grid) → operands ≡ op.knowns → numbers ≡ bind.knowns
      → g ≡ get_or grids (get_or numbers k 0) g → (get_or operands k o).structure ≢ General → g.rows ≡ g.cols
  viewed_square k known operands o numbers g operands_are numbers_are read ne =
      let same : g ≡ matrix k = read_matrix k known numbers g numbers_are read in
      let P : Grid → Type 0 = λ h. h.rows ≡ h.cols in
      subst P (sym same) (matrix-square k known (rw (operands_are, get_or_default op.knowns k o op.work known) at ne))

  -- the rows and columns of a factor's matrix, exchanged where it is primed
  pub oriented-rows : (f : Factor) → f.known < length op.knowns → oriented_rows f.primed (matrix f.known) ≡ fits.lengths (factor_size op valid f).rows
  oriented-rows f known =
      let has : HasLengths fits.lengths (get_or op.knowns f.known op.work) (matrix f.known) = fits.knowns f.known known in
      go f.primed (get_or op.knowns f.known op.work) (matrix f.known) has ∙ ap fits.lengths (sym (factor_size-rows op valid f))
    where
      go : (primed : Bool) (o : Operand) (g : Grid) → HasLengths fits.lengths o g → oriented_rows primed g ≡ fits.lengths (cond primed o.cols o.rows)
      go true o g has = has.cols
      go false o g has = has.rows

  pub oriented-cols : (f : Factor) → f.known < length op.knowns → oriented_cols f.primed (matrix f.known) ≡ fits.lengths (factor_size op valid f).cols
  oriented-cols f known =
      let has : HasLengths fits.lengths (get_or op.knowns f.known op.work) (matrix f.known) = fits.knowns f.known known in
      go f.primed (get_or op.knowns f.known op.work) (matrix f.known) has ∙ ap fits.lengths (sym (factor_size-cols op valid f))
    where
      go : (primed : Bool) (o : Operand) (g : Grid) → HasLengths fits.lengths o g → oriented_cols primed g ≡ fits.lengths (cond primed o.rows o.cols)
      go true o g has = has.rows
      go false o g has = has.cols

  -- the sizes of the factors of a term agree, and their product has the size of the work matrix
  module _ (t : Term) (among : Contains op.terms t) where
    pub product_rows : oriented_rows t.first.primed (matrix t.first.known) ≡ (nth_grid grids bind.work).rows
    product_rows =
        oriented-rows t.first (term_knowns op valid t among).0 ∙ ap fits.lengths (term_sizes op valid t among).1 ∙ sym fits.work.rows

    pub product_cols : oriented_cols t.second.primed (matrix t.second.known) ≡ (nth_grid grids bind.work).cols
    product_cols =
        oriented-cols t.second (term_knowns op valid t among).1 ∙ ap fits.lengths (term_sizes op valid t among).2 ∙ sym fits.work.cols

    pub product_inner : oriented_rows t.second.primed (matrix t.second.known) ≡ oriented_cols t.first.primed (matrix t.first.known)
    product_inner =
        oriented-rows t.second (term_knowns op valid t among).1 ∙ ap fits.lengths (sym (term_sizes op valid t among).0) ∙ sym (oriented-cols t.first (term_knowns op valid t among).0)

  -- the triangular factor of a form has the length of its dimension both ways
  module _ (dim : ℕ) (f : Factor) (known : f.known < length op.knowns) (on : IsTriangleOn op dim f) where
    not_general : (get_or op.knowns f.known op.work).structure ≢ General
    not_general e = let triangular : IsTriangular (get_or op.knowns f.known op.work).structure = on.triangular in rw e at triangular

    matrix_rows : (matrix f.known).rows ≡ fits.lengths dim
    matrix_rows =
        let has : HasLengths fits.lengths (get_or op.knowns f.known op.work) (matrix f.known) = fits.knowns f.known known in
        has.rows ∙ ap fits.lengths on.rows

    matrix_cols : (matrix f.known).cols ≡ fits.lengths dim
    matrix_cols = sym (matrix-square f.known known not_general) ∙ matrix_rows

    pub triangle_rows : (primed : Bool) → oriented_rows primed (matrix f.known) ≡ fits.lengths dim
    triangle_rows true = matrix_cols
    triangle_rows false = matrix_rows

    pub triangle_cols : (primed : Bool) → oriented_cols primed (matrix f.known) ≡ fits.lengths dim
    triangle_cols true = matrix_rows
    triangle_cols false = matrix_cols
