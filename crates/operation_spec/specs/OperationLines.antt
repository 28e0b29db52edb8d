-- An operation as lines of words.
use Rattle.std.specs.Prelude.{ℕ, List, [], ◌∷◌, ◌++◌, codes, map, slice_index_or, Bool, if◌then◌else◌}
use Rattle.std.specs.List.{flat_map}
use Rattle.structure_rules.specs.declared.Structure.{Structure}
use Rattle.structure_rules.specs.declared.Structure.TheVariants.{General, Lower, UnitLower, Upper, UnitUpper, Diagonal, Symmetric}
use Rattle.operation_spec.specs.declared.operation.Operation.{Operation}
use Rattle.operation_spec.specs.declared.operation.Operand.{Operand}
use Rattle.operation_spec.specs.declared.operation.Factor.{Factor}
use Rattle.operation_spec.specs.declared.operation.Term.{Term}
use Rattle.operation_spec.specs.declared.operation.Form.{Form}
use Rattle.operation_spec.specs.declared.operation.Form.TheVariants.{Assign, Left, Right, Sylvester, Lu, Ldl}

abbrev pub structure_word : Structure → List ℕ
structure_word General = codes "general"
structure_word Lower = codes "lower"
structure_word UnitLower = codes "unitlower"
structure_word Upper = codes "upper"
structure_word UnitUpper = codes "unitupper"
structure_word Diagonal = codes "diagonal"
structure_word Symmetric = codes "symmetric"

-- the name with a number
abbrev pub nth_name : List (List ℕ) → ℕ → List ℕ
nth_name names n = slice_index_or names n []

-- `work` or `known`, then the operand's name, its structure, and the names of its dimensions
abbrev pub operand_line : List (List ℕ) → List ℕ → Operand → List (List ℕ)
operand_line dims first operand = first ∷ operand.name ∷ structure_word operand.structure ∷ nth_name dims operand.rows ∷ nth_name dims operand.cols ∷ []

-- ---- the equation, over the names of the known operands

abbrev pub factor_words : List (List ℕ) → Factor → List (List ℕ)
factor_words knowns f = nth_name knowns f.known ∷ (if f.primed then codes "'" ∷ [] else [])

abbrev pub sign_word : Bool → List ℕ
sign_word minus = if minus then codes "-" else codes "+"

abbrev pub term_words : List (List ℕ) → Term → List (List ℕ)
term_words knowns term = sign_word term.minus ∷ factor_words knowns term.first ++ codes "*" ∷ factor_words knowns term.second

abbrev pub left_words : List (List ℕ) → Form → List (List ℕ)
left_words knowns Assign = codes "X" ∷ []
left_words knowns (Left t) = factor_words knowns t ++ codes "*" ∷ codes "X" ∷ []
left_words knowns (Right t) = codes "X" ∷ codes "*" ∷ factor_words knowns t
left_words knowns (Sylvester t u minus) = factor_words knowns t ++ codes "*" ∷ codes "X" ∷ sign_word minus ∷ codes "X" ∷ codes "*" ∷ factor_words knowns u
left_words knowns Lu = codes "lu" ∷ codes "X" ∷ []
left_words knowns Ldl = codes "ldl" ∷ codes "X" ∷ []

abbrev pub known_names : Operation → List (List ℕ)
known_names op = map (λ o. o.name) op.knowns

-- the equation without the word in front of it
abbrev pub equation_words : Operation → List (List ℕ)
equation_words op = left_words (known_names op) op.form ++ codes "=" ∷ op.work.name ∷ flat_map (term_words (known_names op)) op.terms

-- ---- the whole block

abbrev pub operation_lines : Operation → List (List (List ℕ))
operation_lines op = (codes "operation" ∷ op.name ∷ [])
    ∷ (codes "dims" ∷ op.dims)
    ∷ operand_line op.dims (codes "work") op.work
    ∷ map (operand_line op.dims (codes "known")) op.knowns
    ++ (codes "equation" ∷ equation_words op)
    ∷ (codes "end" ∷ [])
    ∷ []
