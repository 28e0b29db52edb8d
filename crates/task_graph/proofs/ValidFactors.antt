-- A valid operation meets the conditions of its form: its factors are triangular where the form solves by them, W is
-- general in Lu and lower in Ldl. Cited by the laws of tasks.
use Rattle.std.proofs.Common.{◌≡◌, ℕ, Bool, true, false, if◌then◌else◌, refl, subst, add-one}
use Rattle.std.specs.Prelude.{◌&&◌, ◌==◌}
use Rattle.std.proofs.lemmas.Bool.{and_parts}
use Rattle.structure_rules.specs.declared.Structure.{Structure}
use Rattle.structure_rules.specs.declared.Structure.TheVariants.{General, Lower, UnitLower, Upper, UnitUpper, Diagonal, Symmetric}
use Rattle.structure_rules.specs.Structures.{IsTriangular, transpose_of}
use Rattle.operation_spec.specs.declared.operation.Operation.{Operation}
use Rattle.operation_spec.specs.declared.operation.Factor.{Factor}
use Rattle.operation_spec.specs.declared.operation.Form.{Form}
use Rattle.operation_spec.specs.declared.operation.Form.TheVariants.{Assign, Left, Right, Sylvester, Lu, Ldl}
use Rattle.operation_spec.specs.Equations.{is_general, is_lower, is_triangle, is_triangle_on, meets_form, side_of_factor, left_of_form}
use Rattle.operation_spec.specs.ValidOperations.{IsValid}
use Rattle.task_graph.specs.Factors.{known, factor_structure, AreTriangularBy, AreTriangular}

-- ---- the tests of structures

general-from_test : (s : Structure) → is_general s ≡ true → s ≡ General
general-from_test General h = refl
general-from_test other h = cc

lower-from_test : (s : Structure) → is_lower s ≡ true → s ≡ Lower
lower-from_test Lower h = refl
lower-from_test other h = cc

-- a triangular structure, or its transpose
turned-triangular : (primed : Bool) (s : Structure) → is_triangle s ≡ true → IsTriangular (if primed then transpose_of s else s)
turned-triangular primed General h = absurd (cc)
turned-triangular primed Symmetric h = absurd (cc)
turned-triangular true Lower h = tt
turned-triangular true UnitLower h = tt
turned-triangular true Upper h = tt
turned-triangular true UnitUpper h = tt
turned-triangular true Diagonal h = tt
turned-triangular false Lower h = tt
turned-triangular false UnitLower h = tt
turned-triangular false Upper h = tt
turned-triangular false UnitUpper h = tt
turned-triangular false Diagonal h = tt

-- ---- the conditions of a form

-- a factor that passes the test of its form
factor-triangular : (op : Operation) (dim : ℕ) (f : Factor) → is_triangle_on op.work op.knowns dim (side_of_factor f) ≡ true → IsTriangular (factor_structure op f)
factor-triangular op dim f h =
    let at_known : is_triangle (known op f.known).structure && (known op f.known).rows == dim ≡ true = rw (add-one f.known) at h in
    let passes = and_parts (is_triangle (known op f.known).structure) ((known op f.known).rows == dim) at_known in
    turned-triangular f.primed (known op f.known).structure passes.0

-- a form whose conditions hold
form-triangular : (op : Operation) (form : Form) → meets_form op.work op.knowns (left_of_form form) ≡ true → AreTriangularBy op form
form-triangular op Assign h = tt
form-triangular op (Left t) h = factor-triangular op op.work.rows t h
form-triangular op (Right t) h = factor-triangular op op.work.cols t h
form-triangular op (Sylvester t u minus) h =
    let outer = and_parts _ (is_triangle_on op.work op.knowns op.work.cols (side_of_factor u)) h in
    let inner = and_parts (is_general op.work.structure) (is_triangle_on op.work op.knowns op.work.rows (side_of_factor t)) outer.0 in
    (factor-triangular op op.work.rows t inner.1, factor-triangular op op.work.cols u outer.1)
form-triangular op Lu h = general-from_test op.work.structure (and_parts (is_general op.work.structure) (op.work.rows == op.work.cols) h).0
form-triangular op Ldl h = lower-from_test op.work.structure h

-- ---- valid operations

pub AreTriangular-valid : (op : Operation) → IsValid op → AreTriangular op
AreTriangular-valid op valid = form-triangular op op.form valid.form

-- the work operand of a valid Ldl
pub lower-valid : (op : Operation) → IsValid op → op.form ≡ Ldl → op.work.structure ≡ Lower
lower-valid op valid ldl = let h : AreTriangularBy op Ldl = subst (AreTriangularBy op) ldl (AreTriangular-valid op valid) in h

-- the work operand of a valid Lu
pub general-valid : (op : Operation) → IsValid op → op.form ≡ Lu → op.work.structure ≡ General
general-valid op valid lu = let h : AreTriangularBy op Lu = subst (AreTriangularBy op) lu (AreTriangular-valid op valid) in h
