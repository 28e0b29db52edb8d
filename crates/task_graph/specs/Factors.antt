-- The operands of an operation: their structures and dimensions, transposed where they are primed.
use Rattle.std.specs.Prelude.{◌≡◌, ℕ, if◌then◌else◌, slice_index_or}
use Rattle.structure_rules.specs.declared.Structure.{Structure}
use Rattle.structure_rules.specs.declared.Structure.TheVariants.{General, Lower}
use Rattle.structure_rules.specs.Structures.{IsTriangular, transpose_of}
use Rattle.operation_spec.specs.declared.operation.Operation.{Operation}
use Rattle.operation_spec.specs.declared.operation.Operand.{Operand}
use Rattle.operation_spec.specs.declared.operation.Form.{Form}
use Rattle.operation_spec.specs.declared.operation.Form.TheVariants.{Assign, Left, Right, Sylvester, Lu, Ldl}
use Rattle.operation_spec.specs.declared.operation.Factor.{Factor}

-- known operand n (the work operand where there is none)
abbrev pub known : Operation → ℕ → Operand
known op n = slice_index_or op.knowns n op.work

-- the structure of op(F)
abbrev pub factor_structure : Operation → Factor → Structure
factor_structure op f = if f.primed then transpose_of (known op f.known).structure else (known op f.known).structure

-- the column dimension of op(F)
abbrev pub factor_cols : Operation → Factor → ℕ
factor_cols op f = if f.primed then (known op f.known).rows else (known op f.known).cols

-- the factors that a form solves with are triangular; of the factorisations, Lu has a general W and Ldl a lower one
abbrev pub AreTriangularBy : Operation → Form → Type 0
AreTriangularBy op Assign = Unit {0}
AreTriangularBy op (Left t) = IsTriangular (factor_structure op t)
AreTriangularBy op (Right t) = IsTriangular (factor_structure op t)
AreTriangularBy op (Sylvester t u minus) = IsTriangular (factor_structure op t) × IsTriangular (factor_structure op u)
AreTriangularBy op Lu = op.work.structure ≡ General
AreTriangularBy op Ldl = op.work.structure ≡ Lower

abbrev pub AreTriangular : Operation → Type 0
AreTriangular op = AreTriangularBy op op.form
