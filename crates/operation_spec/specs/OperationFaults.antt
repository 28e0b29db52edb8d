-- The faults of the lines of an operation block: for each line the tests in their order, over what was declared above
-- it. Where no line has a fault, the lines say an operation.
use Rattle.std.specs.Prelude.{ℕ, zero, suc, ◌-◌, List, [], ◌∷◌, ◌++◌, length, codes, map, Result, Ok, Err, Option, Some, None, Bool, true, false, ◌&&◌, ◌||◌, not, nat_lt, nat_le, ◌==◌, if◌then◌else◌}
use Rattle.std.specs.List.{list_all}
use Rattle.std.specs.Str.{bytes_eq}
use Rattle.structure_rules.specs.declared.Structure.{Structure}
use Rattle.structure_rules.specs.declared.Structure.TheVariants.{General, Lower, UnitLower, Upper, UnitUpper, Diagonal, Symmetric}
use Rattle.byte_texts.specs.Reading.{◌>>=◌}
use Rattle.text_scan.specs.FaultKinds.{Syntax, Limit, NameTwice, NameUnknown, TooManyTerms, Shape, Form}
use Rattle.text_scan.specs.Faults.{Fault, ◌on◌, first_fault}
use Rattle.text_scan.specs.Lines.{Line, begins_with, due_line, inner_line, is_end, nth_word}
use Rattle.text_scan.specs.Names.{number_of, is_among, has_twice}
use Rattle.text_scan.specs.Words.{is_name}
use Rattle.operation_spec.specs.declared.fault.SpecFault.{SpecFault}
use Rattle.operation_spec.specs.declared.fault.SpecFault.TheVariants as spec_faults
use Rattle.operation_spec.specs.declared.equation.Equation.{Equation}
use Rattle.operation_spec.specs.declared.equation.Side.{Side}
use Rattle.operation_spec.specs.declared.equation.Product.{Product}
use Rattle.operation_spec.specs.declared.equation.LeftSide.{LeftSide}
use Rattle.operation_spec.specs.declared.equation.LeftSide.TheVariants.{Solution, OnLeft, OnRight, OnBoth, LuFactors, LdlFactors}
use Rattle.operation_spec.specs.declared.operation.Operation.{Operation}
use Rattle.operation_spec.specs.declared.operation.Operand.{Operand}
use Rattle.operation_spec.specs.declared.operation.Factor.{Factor}
use Rattle.operation_spec.specs.declared.operation.Term.{Term}
use Rattle.operation_spec.specs.declared.operation.Form.TheVariants as forms
use Rattle.operation_spec.specs.declared.operation.Form as declared_form
use Rattle.operation_spec.specs.Equations.{equation_of, sides_of, sizes_agree, meets_form, may_be_work, is_general, uses_operand, has_dim}
use Rattle.operation_spec.specs.ValidOperations.{dim_limit, known_limit, term_limit}

-- the fault that an error names; want of memory names none
abbrev pub spec_fault : SpecFault → Option Fault
spec_fault spec_faults.Memory = None
spec_fault (spec_faults.Syntax line) = Some (Syntax on line)
spec_fault (spec_faults.Limit line) = Some (Limit on line)
spec_fault (spec_faults.NameTwice line) = Some (NameTwice on line)
spec_fault (spec_faults.NameUnknown line) = Some (NameUnknown on line)
spec_fault (spec_faults.TooManyTerms line) = Some (TooManyTerms on line)
spec_fault (spec_faults.Shape line) = Some (Shape on line)
spec_fault (spec_faults.Form line) = Some (Form on line)

-- ---- `operation NAME`

abbrev pub is_name_line : List (List ℕ) → Bool
is_name_line (first ∷ name ∷ []) = bytes_eq first (codes "operation") && is_name name
is_name_line _ = false

unfoldable pub name_at : Line → Result (List ℕ) Fault
name_at line = first_fault (record { holds = not (is_name_line line.words); fault = Syntax on line.number } ∷ []) (nth_word line.words 1)

-- ---- `dims NAME ..`

abbrev pub names_behind : List (List ℕ) → List (List ℕ)
names_behind [] = []
names_behind (first ∷ names) = names

abbrev pub is_dims_line : List (List ℕ) → Bool
is_dims_line (first ∷ names) = bytes_eq first (codes "dims") && nat_lt 0 (length names) && list_all is_name names
is_dims_line [] = false

unfoldable pub dims_at : Line → Result (List (List ℕ)) Fault
dims_at line = let dims = names_behind line.words in first_fault (
    record { holds = not (is_dims_line line.words); fault = Syntax on line.number }
    ∷ record { holds = nat_lt dim_limit (length dims); fault = Limit on line.number }
    ∷ record { holds = has_twice dims; fault = NameTwice on line.number }
    ∷ []) dims

-- ---- `work NAME STRUCTURE DIM DIM`, and the same with `known`

abbrev pub structure_of : List ℕ → Option Structure
structure_of w =
    if bytes_eq w (codes "general") then Some General
    else if bytes_eq w (codes "lower") then Some Lower
    else if bytes_eq w (codes "unitlower") then Some UnitLower
    else if bytes_eq w (codes "upper") then Some Upper
    else if bytes_eq w (codes "unitupper") then Some UnitUpper
    else if bytes_eq w (codes "diagonal") then Some Diagonal
    else if bytes_eq w (codes "symmetric") then Some Symmetric
    else None

abbrev pub is_structure : Option Structure → Bool
is_structure None = false
is_structure (Some s) = true

abbrev pub some_structure : Option Structure → Structure
some_structure None = General
some_structure (Some s) = s

abbrev pub is_operand_line : List ℕ → List (List ℕ) → Bool
is_operand_line word (first ∷ name ∷ structure ∷ rows ∷ cols ∷ []) = bytes_eq first word && is_name name && is_structure (structure_of structure) && is_name rows && is_name cols
is_operand_line word _ = false

-- the operand that such a line says
abbrev pub operand_of : List (List ℕ) → List (List ℕ) → Operand
operand_of dims words = record {
  name = nth_word words 1;
  structure = some_structure (structure_of (nth_word words 2));
  rows = number_of dims (nth_word words 3);
  cols = number_of dims (nth_word words 4);
}

-- the name is the solution's, or one of these
abbrev pub is_name_taken : List (List ℕ) → List ℕ → Bool
is_name_taken names w = bytes_eq w (codes "X") || is_among names w

abbrev pub has_unknown_dim : List (List ℕ) → List (List ℕ) → Bool
has_unknown_dim dims words = not (is_among dims (nth_word words 3)) || not (is_among dims (nth_word words 4))

-- not general, on two different dimensions
abbrev pub is_misshapen : Operand → Bool
is_misshapen o = not (is_general o.structure) && not (o.rows == o.cols)

unfoldable pub work_at : List (List ℕ) → Line → Result Operand Fault
work_at dims line = let o = operand_of dims line.words in first_fault (
    record { holds = not (is_operand_line (codes "work") line.words); fault = Syntax on line.number }
    ∷ record { holds = is_name_taken [] o.name; fault = NameTwice on line.number }
    ∷ record { holds = has_unknown_dim dims line.words; fault = NameUnknown on line.number }
    ∷ record { holds = is_misshapen o; fault = Shape on line.number }
    ∷ record { holds = not (may_be_work o.structure); fault = Form on line.number }
    ∷ []) o

abbrev pub names_of : Operand → List Operand → List (List ℕ)
names_of work knowns = map (λ o. o.name) (work ∷ knowns)

unfoldable pub known_at : List (List ℕ) → Operand → List Operand → Line → Result Operand Fault
known_at dims work knowns line = let o = operand_of dims line.words in first_fault (
    record { holds = not (is_operand_line (codes "known") line.words); fault = Syntax on line.number }
    ∷ record { holds = nat_le known_limit (length knowns); fault = Limit on line.number }
    ∷ record { holds = is_name_taken (names_of work knowns) o.name; fault = NameTwice on line.number }
    ∷ record { holds = has_unknown_dim dims line.words; fault = NameUnknown on line.number }
    ∷ record { holds = is_misshapen o; fault = Shape on line.number }
    ∷ []) o

-- the known operands behind those found, up to a line that doesn't begin with `known`; that line, and those behind it
pub record Knowns : Type 0 where
  pub operands : List Operand
  pub line : Line
  pub rest : List Line

unfoldable pub knowns_at : ℕ → List (List ℕ) → Operand → List Operand → List Line → Result Knowns Fault
knowns_at end dims work found [] = Err (Syntax on end)
knowns_at end dims work found (line ∷ lines) =
    if line.number == end then Err (Syntax on line.number)
    else if begins_with (codes "known") line.words then (known_at dims work found line >>= λ o. knowns_at end dims work (found ++ o ∷ []) lines)
    else Ok (record { operands = found; line = line; rest = lines })

-- ---- `equation LEFTSIDE = W TERMS`

abbrev pub equation_in : List (List ℕ) → List (List ℕ) → Option Equation
equation_in names words = if begins_with (codes "equation") words then equation_of names (names_behind words) else None

abbrev pub has_unknown_side : Operand → List Operand → Equation → Bool
has_unknown_side work knowns e = let count = length (work ∷ knowns) in
    not (nat_lt e.first count && list_all (λ side. nat_lt side.operand count) (sides_of e))

-- the test holds of each number below n
abbrev pub all_below : ℕ → (ℕ → Bool) → Bool
all_below zero test = true
all_below (suc n) test = all_below n test && test n

-- the right side doesn't begin with the work operand, or it is T, U or a factor, or a condition of the form isn't met,
-- or a known operand or a dimension isn't used
abbrev pub is_malformed : List (List ℕ) → Operand → List Operand → Equation → Bool
is_malformed dims work knowns e =
    not (e.first == 0) || uses_operand e 0 || not (meets_form work knowns e.left)
    || not (all_below (length knowns) (λ k. uses_operand e (suc k))) || not (all_below (length dims) (has_dim work knowns))

unfoldable pub sides_at : List (List ℕ) → Operand → List Operand → ℕ → Equation → Result Equation Fault
sides_at dims work knowns line e = first_fault (
    record { holds = has_unknown_side work knowns e; fault = NameUnknown on line }
    ∷ record { holds = nat_lt term_limit (length e.products); fault = TooManyTerms on line }
    ∷ record { holds = not (sizes_agree work knowns e); fault = Shape on line }
    ∷ record { holds = is_malformed dims work knowns e; fault = Form on line }
    ∷ []) e

unfoldable pub equation_at : List (List ℕ) → Operand → List Operand → Line → Result Equation Fault
equation_at dims work knowns line = said (equation_in (names_of work knowns) line.words)
  where
    said : Option Equation → Result Equation Fault
    said None = Err (Syntax on line.number)
    said (Some e) = sides_at dims work knowns line.number e

-- ---- the operation that they say, where the work operand is no side

abbrev pub factor_of : Side → Factor
factor_of side = record { known = side.operand - 1; primed = side.primed }

abbrev pub form_of : LeftSide → declared_form.Form
form_of Solution = forms.Assign
form_of (OnLeft t) = forms.Left (factor_of t)
form_of (OnRight t) = forms.Right (factor_of t)
form_of (OnBoth t u minus) = forms.Sylvester (factor_of t) (factor_of u) minus
form_of LuFactors = forms.Lu
form_of LdlFactors = forms.Ldl

abbrev pub term_of : Product → Term
term_of p = record { minus = p.minus; first = factor_of p.first; second = factor_of p.second }

-- ---- `end`

unfoldable pub end_at : Line → Result (Unit {0}) Fault
end_at line = first_fault (record { holds = not (is_end line.words); fault = Syntax on line.number } ∷ []) tt

-- ---- the whole block

-- the operands that the lines behind the first declare
pub record Declared : Type 0 where
  pub dims : List (List ℕ)
  pub work : Operand
  pub knowns : Knowns

unfoldable pub declared_at : ℕ → List Line → Result Declared Fault
declared_at end lines = do
  second ← inner_line end lines
  dims ← dims_at second.0
  third ← inner_line end second.1
  work ← work_at dims third.0
  knowns ← knowns_at end dims work [] third.1
  Ok (record { dims = dims; work = work; knowns = knowns })

-- the operation that the first lines say, and the lines behind them
unfoldable pub operation_at : ℕ → List Line → Result (Operation × List Line) Fault
operation_at end lines = do
  first ← inner_line end lines
  name ← name_at first.0
  declared ← declared_at end first.1
  e ← equation_at declared.dims declared.work declared.knowns.operands declared.knowns.line
  last ← due_line end declared.knowns.rest
  done ← end_at last.0
  Ok (
    record {
      name = name;
      dims = declared.dims;
      work = declared.work;
      knowns = declared.knowns.operands;
      form = form_of e.left;
      terms = map term_of e.products;
    },
    last.1,
  )
