-- What a valid operation says of its form: its factors are triangular where the form solves by them, and W is general, lower or
-- upper, general in Sylvester and Lu, lower in Ldl, and square where the form finds factors.
use Rattle.std.proofs.Common.{◌≡◌, ◌≢◌, ℕ, Bool, true, refl, sym, ap, ◌∙◌, add-one, arith}
use Rattle.std.specs.Prelude.{◌&&◌, ◌==◌, slice_index_or}
use Rattle.std.proofs.lemmas.Bool.{and_parts, eqb-true}
use Rattle.residue_sums.specs.Grids.{Grid}
use Rattle.structure_rules.specs.declared.Structure.{Structure}
use Rattle.structure_rules.specs.declared.Structure.TheVariants.{General, Lower, UnitLower, Upper, UnitUpper, Diagonal, Symmetric}
use Rattle.structure_rules.specs.Structures.{IsTriangular, IsWorkStructure}
use Rattle.operation_spec.specs.declared.operation.Operation.{Operation}
use Rattle.operation_spec.specs.declared.operation.Factor.{Factor}
use Rattle.operation_spec.specs.declared.operation.Form.TheVariants.{Left, Right, Sylvester, Lu, Ldl}
use Rattle.operation_spec.specs.Equations.{is_general, is_lower, may_be_work, is_triangle, is_triangle_on, meets_form, side_of_factor, left_of_form}
use Rattle.operation_spec.specs.ValidOperations.{IsValid, IsOperand}
use Rattle.equation.specs.Jobs.{HasLengths}

-- ---- the tests of structures

general-from_test : (s : Structure) → is_general s ≡ true → s ≡ General
general-from_test General h = refl
general-from_test other h = cc

lower-from_test : (s : Structure) → is_lower s ≡ true → s ≡ Lower
lower-from_test Lower h = refl
lower-from_test other h = cc

triangular-from_test : (s : Structure) → is_triangle s ≡ true → IsTriangular s
triangular-from_test General h = absurd (cc)
triangular-from_test Symmetric h = absurd (cc)
triangular-from_test Lower h = tt
triangular-from_test UnitLower h = tt
triangular-from_test Upper h = tt
triangular-from_test UnitUpper h = tt
triangular-from_test Diagonal h = tt

work-from_test : (s : Structure) → may_be_work s ≡ true → IsWorkStructure s
work-from_test General h = tt
work-from_test Lower h = tt
work-from_test Upper h = tt
work-from_test Symmetric h = absurd (cc)
work-from_test UnitLower h = absurd (cc)
work-from_test UnitUpper h = absurd (cc)
work-from_test Diagonal h = absurd (cc)

-- ---- valid operations

-- the structure through which a factor's matrix is read
abbrev pub known_structure : Operation → Factor → Structure
known_structure op t = (slice_index_or op.knowns t.known op.work).structure

-- a factor with a triangular structure on a dimension
pub record IsTriangleOn (op : Operation) (dim : ℕ) (f : Factor) : Type 0 where
  pub triangular : IsTriangular (known_structure op f)
  pub rows : (slice_index_or op.knowns f.known op.work).rows ≡ dim

-- a factor that passes the test of its form
factor-on : (op : Operation) (dim : ℕ) (f : Factor) → is_triangle_on op.work op.knowns dim (side_of_factor f) ≡ true → IsTriangleOn op dim f
factor-on op dim f h =
    let at_known : is_triangle (known_structure op f) && (slice_index_or op.knowns f.known op.work).rows == dim ≡ true = rw (add-one f.known) at h in
    let parts = and_parts (is_triangle (known_structure op f)) ((slice_index_or op.knowns f.known op.work).rows == dim) at_known in
    record { triangular = triangular-from_test (known_structure op f) parts.0; rows = eqb-true _ _ parts.1 }

module _ (op : Operation) (valid : IsValid op) where
  pub work-valid : IsWorkStructure op.work.structure
  work-valid = work-from_test op.work.structure valid.work

  pub left-on : (t : Factor) → op.form ≡ Left t → IsTriangleOn op op.work.rows t
  left-on t form =
      let meets : meets_form op.work op.knowns (left_of_form op.form) ≡ true = valid.form in
      factor-on op op.work.rows t (rw form at meets)

  pub right-on : (t : Factor) → op.form ≡ Right t → IsTriangleOn op op.work.cols t
  right-on t form =
      let meets : meets_form op.work op.knowns (left_of_form op.form) ≡ true = valid.form in
      factor-on op op.work.cols t (rw form at meets)

  pub sylvester-on : (t u : Factor) (minus : Bool) → op.form ≡ Sylvester t u minus → IsTriangleOn op op.work.rows t × IsTriangleOn op op.work.cols u
  sylvester-on t u minus form =
      let meets : meets_form op.work op.knowns (left_of_form op.form) ≡ true = valid.form in
      let outer = and_parts _ (is_triangle_on op.work op.knowns op.work.cols (side_of_factor u)) (rw form at meets) in
      let inner = and_parts (is_general op.work.structure) (is_triangle_on op.work op.knowns op.work.rows (side_of_factor t)) outer.0 in
      (factor-on op op.work.rows t inner.1, factor-on op op.work.cols u outer.1)

  pub left-triangular : (t : Factor) → op.form ≡ Left t → IsTriangular (known_structure op t)
  left-triangular t form = let on : IsTriangleOn op op.work.rows t = left-on t form in on.triangular

  pub right-triangular : (t : Factor) → op.form ≡ Right t → IsTriangular (known_structure op t)
  right-triangular t form = let on : IsTriangleOn op op.work.cols t = right-on t form in on.triangular

  pub sylvester-triangular : (t u : Factor) (minus : Bool) → op.form ≡ Sylvester t u minus → IsTriangular (known_structure op t) × IsTriangular (known_structure op u)
  sylvester-triangular t u minus form =
      let on : IsTriangleOn op op.work.rows t × IsTriangleOn op op.work.cols u = sylvester-on t u minus form in
      (on.0.triangular, on.1.triangular)

  pub sylvester-general : (t u : Factor) (minus : Bool) → op.form ≡ Sylvester t u minus → op.work.structure ≡ General
  sylvester-general t u minus form =
      let meets : meets_form op.work op.knowns (left_of_form op.form) ≡ true = valid.form in
      let outer = and_parts _ (is_triangle_on op.work op.knowns op.work.cols (side_of_factor u)) (rw form at meets) in
      general-from_test op.work.structure (and_parts (is_general op.work.structure) (is_triangle_on op.work op.knowns op.work.rows (side_of_factor t)) outer.0).0

  pub lu-general : op.form ≡ Lu → (op.work.structure ≡ General) × (op.work.rows ≡ op.work.cols)
  lu-general form =
      let meets : meets_form op.work op.knowns (left_of_form op.form) ≡ true = valid.form in
      let parts = and_parts (is_general op.work.structure) (op.work.rows == op.work.cols) (rw form at meets) in
      (general-from_test op.work.structure parts.0, eqb-true _ _ parts.1)

  pub ldl-lower : op.form ≡ Ldl → op.work.structure ≡ Lower
  ldl-lower form =
      let meets : meets_form op.work op.knowns (left_of_form op.form) ≡ true = valid.form in
      lower-from_test op.work.structure (rw form at meets)

  -- the work matrix is square where the form finds factors
  module _ (lengths : ℕ → ℕ) (work : Grid) (has : HasLengths lengths op.work work) where
    pub lu-square : op.form ≡ Lu → work.rows ≡ work.cols
    lu-square form = has.rows ∙ ap lengths (lu-general form).1 ∙ sym has.cols

    pub ldl-square : op.form ≡ Ldl → work.rows ≡ work.cols
    ldl-square form =
        let operand : IsOperand op.dims op.work = valid.operands 0 op.work (omega arith) in
        let general_is_not : op.work.structure ≢ General = rw (ldl-lower form) (λ e. absurd (cc)) in
        has.rows ∙ ap lengths (operand.square general_is_not) ∙ sym has.cols
