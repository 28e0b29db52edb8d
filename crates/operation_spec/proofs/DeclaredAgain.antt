-- The lines that declare an operation's name, its dimensions and its operands are read as these: no test of such a line
-- holds. Cited by the law that an operation's lines are read as the operation.
use Rattle.std.proofs.Common.{◌≡◌, ◌≢◌, ℕ, ◌<◌, true, false, not, ◌&&◌, ◌==◌, List, [], ◌∷◌, length, codes, Ok, Some, refl, ap, ◌∙◌, arith, eq-eqb}
use Rattle.std.specs.Prelude.{All, IsTrue}
use Rattle.std.proofs.lemmas.Bool.{lt-ltb, le-ltb, lt-leb}
use Rattle.std.proofs.lemmas.List.Sums.{list_all-from_AllPass}
use Rattle.structure_rules.specs.declared.Structure.{Structure}
use Rattle.structure_rules.specs.declared.Structure.TheVariants.{General, Lower, UnitLower, Upper, UnitUpper, Diagonal, Symmetric}
use Rattle.text_scan.specs.Lines.{Line}
use Rattle.text_scan.specs.Words.{is_name}
use Rattle.text_scan.proofs.FaultTests.{passes_by}
use Rattle.operation_spec.specs.declared.operation.Operand.{Operand}
use Rattle.operation_spec.specs.Equations.{is_general, may_be_work}
use Rattle.operation_spec.specs.OperationFaults.{name_at, dims_at, work_at, known_at, names_of, structure_of, operand_of, is_operand_line, is_name_taken, has_unknown_dim, is_misshapen}
use Rattle.operation_spec.specs.OperationLines.{operand_line, structure_word}
use Rattle.operation_spec.specs.ValidOperations.{HasDims, IsOperand, dim_limit, known_limit}
use Rattle.operation_spec.proofs.NamesApart.{bytes_eq-same, bytes_eq-other, number_of-nth, is_among-nth, is_among-none, has_twice-once}

-- ---- the operation's name and its dimensions

pub name_at-line : (line : Line) (name : List ℕ) → line.words ≡ codes "operation" ∷ name ∷ [] → IsTrue (is_name name) → name_at line ≡ Ok name
unfolding name_at
name_at-line line name words named = rw (words, named) refl

-- dimensions that a text can declare
pub record AreDims (dims : List (List ℕ)) : Type 0 where
  pub has : HasDims dims
  pub names : All (λ name. IsTrue (is_name name)) dims

pub dims_at-line : (line : Line) (dims : List (List ℕ)) → line.words ≡ codes "dims" ∷ dims → AreDims dims → dims_at line ≡ Ok dims
unfolding dims_at
dims_at-line line dims words are =
    rw (words, lt-ltb 0 (length dims) are.has.some, list_all-from_AllPass is_name dims are.names, le-ltb dim_limit (length dims) are.has.few, has_twice-once dims are.has.once) refl

-- ---- an operand

-- an operand that a text can declare
pub record IsNamedOperand (dims : List (List ℕ)) (o : Operand) : Type 0 where
  pub is : IsOperand dims o
  pub name : IsTrue (is_name o.name)

pub structure_of-word : (s : Structure) → structure_of (structure_word s) ≡ Some s
structure_of-word General = refl
structure_of-word Lower = refl
structure_of-word UnitLower = refl
structure_of-word Upper = refl
structure_of-word UnitUpper = refl
structure_of-word Diagonal = refl
structure_of-word Symmetric = refl

pub operand_of-line : (dims : List (List ℕ)) (word : List ℕ) (o : Operand) → AreDims dims → IsNamedOperand dims o → operand_of dims (operand_line dims word o) ≡ o
operand_of-line dims word o are named =
    rw (structure_of-word o.structure, number_of-nth dims o.rows are.has.once named.is.rows, number_of-nth dims o.cols are.has.once named.is.cols) refl

pub is_operand_line-line : (dims : List (List ℕ)) (word : List ℕ) (o : Operand) → AreDims dims → IsNamedOperand dims o → is_operand_line word (operand_line dims word o) ≡ true
is_operand_line-line dims word o are named =
    rw (bytes_eq-same word, named.name, structure_of-word o.structure, are.names o.rows [] named.is.rows, are.names o.cols [] named.is.cols) refl

-- ---- the tests of its line

is_name_taken-free : (names : List (List ℕ)) (w : List ℕ) → w ≢ codes "X" → All (λ name. name ≢ w) names → is_name_taken names w ≡ false
is_name_taken-free names w free others = rw (bytes_eq-other w (codes "X") free, is_among-none names w others) refl

has_unknown_dim-line : (dims : List (List ℕ)) (word : List ℕ) (o : Operand) → AreDims dims → IsNamedOperand dims o → has_unknown_dim dims (operand_line dims word o) ≡ false
has_unknown_dim-line dims word o are named = rw (is_among-nth dims o.rows are.has.once named.is.rows, is_among-nth dims o.cols are.has.once named.is.cols) refl

square_or_general : (s : Structure) (rows cols : ℕ) → (s ≢ General → rows ≡ cols) → (not (is_general s) && not (rows == cols)) ≡ false
square_or_general General rows cols square = refl
square_or_general s rows cols square = rw (eq-eqb rows cols (square (λ same. cc))) refl

is_misshapen-square : (o : Operand) → (o.structure ≢ General → o.rows ≡ o.cols) → is_misshapen o ≡ false
is_misshapen-square o square = square_or_general o.structure o.rows o.cols square

-- ---- the work operand and a known one

pub work_at-line : (dims : List (List ℕ)) (line : Line) (o : Operand) → line.words ≡ operand_line dims (codes "work") o → AreDims dims → IsNamedOperand dims o
    → IsTrue (may_be_work o.structure) → work_at dims line ≡ Ok o
unfolding work_at
work_at-line dims line o words are named may =
    let read : operand_of dims line.words ≡ o = ap (operand_of dims) words ∙ operand_of-line dims (codes "work") o are named in
    passes_by _ (ap (λ ws. not (is_operand_line (codes "work") ws)) words ∙ ap not (is_operand_line-line dims (codes "work") o are named))
    (passes_by _ (ap (λ (r : Operand). is_name_taken [] r.name) read ∙ is_name_taken-free [] o.name named.is.not_solution (λ k d none. absurd (omega arith)))
    (passes_by _ (ap (has_unknown_dim dims) words ∙ has_unknown_dim-line dims (codes "work") o are named)
    (passes_by _ (ap is_misshapen read ∙ is_misshapen-square o named.is.square)
    (passes_by _ (ap (λ (r : Operand). not (may_be_work r.structure)) read ∙ ap not may)
    (ap (λ (r : Operand). Ok r) read)))))

pub known_at-line : (dims : List (List ℕ)) (work : Operand) (found : List Operand) (line : Line) (o : Operand) → line.words ≡ operand_line dims (codes "known") o → AreDims dims → IsNamedOperand dims o
    → length found < known_limit → All (λ name. name ≢ o.name) (names_of work found) → known_at dims work found line ≡ Ok o
unfolding known_at
known_at-line dims work found line o words are named few others =
    let read : operand_of dims line.words ≡ o = ap (operand_of dims) words ∙ operand_of-line dims (codes "known") o are named in
    passes_by _ (ap (λ ws. not (is_operand_line (codes "known") ws)) words ∙ ap not (is_operand_line-line dims (codes "known") o are named))
    (passes_by _ (lt-leb known_limit (length found) few)
    (passes_by _ (ap (λ (r : Operand). is_name_taken (names_of work found) r.name) read ∙ is_name_taken-free (names_of work found) o.name named.is.not_solution others)
    (passes_by _ (ap (has_unknown_dim dims) words ∙ has_unknown_dim-line dims (codes "known") o are named)
    (passes_by _ (ap is_misshapen read ∙ is_misshapen-square o named.is.square)
    (ap (λ (r : Operand). Ok r) read)))))
