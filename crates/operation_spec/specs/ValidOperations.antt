-- Which operations are valid, and which lines spell one.
use Rattle.std.specs.Prelude.{◌≡◌, ◌≢◌, ℕ, ◌<◌, ◌≤◌, List, [], ◌∷◌, ◌++◌, length, codes, map, All, AllPairs, Contains, IsTrue}
use Rattle.std.specs.List.{flat_map}
use Rattle.structure_rules.specs.declared.Structure.TheVariants.{General}
use Rattle.text_scan.specs.Lines.{Line}
use Rattle.text_scan.specs.Words.{is_word, is_name}
use Rattle.operation_spec.specs.declared.operation.Operation.{Operation}
use Rattle.operation_spec.specs.declared.operation.Operand.{Operand}
use Rattle.operation_spec.specs.declared.operation.Factor.{Factor}
use Rattle.operation_spec.specs.declared.operation.Form.{Form}
use Rattle.operation_spec.specs.declared.operation.Form.TheVariants.{Left, Right, Sylvester}
use Rattle.operation_spec.specs.Equations.{sizes_agree, meets_form, may_be_work, equation_of_operation}
use Rattle.operation_spec.specs.OperationLines.{operation_lines}

-- how many dimensions, known operands and terms an operation may have
abbrev pub dim_limit : ℕ
dim_limit = 6

abbrev pub known_limit : ℕ
known_limit = 6

abbrev pub term_limit : ℕ
term_limit = 2

-- the work operand, and the known ones
abbrev pub operands_of : Operation → List Operand
operands_of op = op.work ∷ op.knowns

abbrev pub factors_of_form : Form → List Factor
factors_of_form (Left t) = t ∷ []
factors_of_form (Right t) = t ∷ []
factors_of_form (Sylvester t u minus) = t ∷ u ∷ []
factors_of_form _ = []

-- T, U and the factors of the terms
abbrev pub factors_of : Operation → List Factor
factors_of op = factors_of_form op.form ++ flat_map (λ term. term.first ∷ term.second ∷ []) op.terms

-- one to six dimensions with names of their own
pub record HasDims (dims : List (List ℕ)) : Type 0 where
  pub some : 0 < length dims
  pub few : length dims ≤ dim_limit
  pub once : AllPairs (λ a b. a ≢ b) dims

-- an operand on dimensions that are declared, square where its structure isn't general, and not named like the solution
pub record IsOperand (dims : List (List ℕ)) (o : Operand) : Type 0 where
  pub rows : o.rows < length dims
  pub cols : o.cols < length dims
  pub square : o.structure ≢ General → o.rows ≡ o.cols
  pub not_solution : o.name ≢ codes "X"

-- an operation whose equation means something
pub record IsValid (op : Operation) : Type 0 where
  pub dims : HasDims op.dims
  pub operands : All (IsOperand op.dims) (operands_of op)
  pub names_once : AllPairs (λ a b. a ≢ b) (map (λ o. o.name) (operands_of op))
  pub work : IsTrue (may_be_work op.work.structure)
  pub few_knowns : length op.knowns ≤ known_limit
  pub few_terms : length op.terms ≤ term_limit
  pub factors : All (λ f. f.known < length op.knowns) (factors_of op)
  pub sizes : IsTrue (sizes_agree op.work op.knowns (equation_of_operation op))
  pub form : IsTrue (meets_form op.work op.knowns (equation_of_operation op).left)
  pub knowns_used : (k : ℕ) → k < length op.knowns → Contains (map (λ f. f.known) (factors_of op)) k
  pub dims_used : (d : ℕ) → d < length op.dims → Contains (flat_map (λ o. o.rows ∷ o.cols ∷ []) (operands_of op)) d

-- its own name, those of its dimensions, and those of its operands
abbrev pub all_names : Operation → List (List ℕ)
all_names op = op.name ∷ op.dims ++ map (λ o. o.name) (operands_of op)

-- its names can stand in a text
pub record HasNames (op : Operation) : Type 0 where
  pub words : All (λ name. IsTrue (is_word name)) (all_names op)
  pub own : IsTrue (is_name op.name)
  pub dims : All (λ name. IsTrue (is_name name)) op.dims
  pub operands : All (λ o. IsTrue (is_name o.name)) (operands_of op)

-- the first lines are those of a valid operation; rest are the others
pub record SpellsOperation (lines : List Line) (op : Operation) (rest : List Line) : Type 0 where
  pub text : (own : List Line) × (lines ≡ own ++ rest) × (map (λ line. line.words) own ≡ operation_lines op)
  pub valid : IsValid op
  pub names : HasNames op
