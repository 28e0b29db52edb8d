-- The line of an operand that was read, and what holds of the operand. Cited by the laws of operation texts.
use Rattle.std.proofs.Common.{◌≡◌, ◌≢◌, ℕ, ◌<◌, true, false, not, ◌==◌, if◌then◌else◌, List, [], ◌∷◌, length, codes, Ok, Option, Some, None, IfSome, IsTrue, All, bytes_eq, refl, sym, ◌∙◌, inl, inr, subst, eqb-true, leb-false}
use Rattle.std.proofs.lemmas.Bool.{and_cases, or_parts, not-false, cond_both}
use Rattle.text_scan.specs.Names.{is_among}
use Rattle.structure_rules.specs.declared.Structure.{Structure}
use Rattle.structure_rules.specs.declared.Structure.TheVariants.{General, Lower, UnitLower, Upper, UnitUpper, Diagonal, Symmetric}
use Rattle.byte_texts.proofs.Binding.{same_ok}
use Rattle.text_scan.specs.Lines.{Line}
use Rattle.text_scan.specs.Words.{is_name}
use Rattle.text_scan.proofs.FaultTests.{passed_by}
use Rattle.operation_spec.specs.declared.operation.Operand.{Operand}
use Rattle.operation_spec.specs.Equations.{is_general, may_be_work}
use Rattle.operation_spec.specs.OperationFaults.{structure_of, is_structure, some_structure, is_operand_line, operand_of, is_name_taken, has_unknown_dim, is_misshapen, work_at, known_at, names_of}
use Rattle.operation_spec.specs.OperationLines.{structure_word, operand_line}
use Rattle.operation_spec.specs.ValidOperations.{IsOperand, known_limit}
use Rattle.operation_spec.proofs.FoundNames.{text_is, text_is_not, nth_name-number_of, among_below, none_is}
use Rattle.operation_spec.proofs.ManyTests.{all_of_five}

-- a word that names a structure is the structure's word
structure_taken : (w : List ℕ) → IfSome (structure_of w) (λ s. structure_word s ≡ w)
structure_taken w =
    one (codes "general") General _ refl (one (codes "lower") Lower _ refl (one (codes "unitlower") UnitLower _ refl (one (codes "upper") Upper _ refl
    (one (codes "unitupper") UnitUpper _ refl (one (codes "diagonal") Diagonal _ refl (one (codes "symmetric") Symmetric None refl tt))))))
  where
    one : (text : List ℕ) (s : Structure) (others : Option Structure) → structure_word s ≡ text → IfSome others (λ s. structure_word s ≡ w)
        → IfSome (if bytes_eq w text then Some s else others) (λ s. structure_word s ≡ w)
    one text s others is h = cond_both (bytes_eq w text) (Some s) others (λ o. IfSome o (λ s. structure_word s ≡ w)) (λ same. is ∙ sym (text_is w text same)) (λ _. h)

structure_again : (w : List ℕ) (o : Option Structure) → IfSome o (λ s. structure_word s ≡ w) → is_structure o ≡ true → structure_word (some_structure o) ≡ w
structure_again w None h is = absurd cc
structure_again w (Some s) h is = h

-- the words of an operand's line
line_taken : (dims : List (List ℕ)) (word first name structure rows cols : List ℕ) → is_operand_line word (first ∷ name ∷ structure ∷ rows ∷ cols ∷ []) ≡ true
    → is_among dims rows ≡ true → is_among dims cols ≡ true
    → first ∷ name ∷ structure ∷ rows ∷ cols ∷ [] ≡ operand_line dims word (operand_of dims (first ∷ name ∷ structure ∷ rows ∷ cols ∷ []))
line_taken dims word first name structure rows cols is rows_known cols_known =
    let parts = all_of_five (bytes_eq first word) (is_name name) (is_structure (structure_of structure)) (is_name rows) (is_name cols) is in
    let first_is = text_is first word parts.0 in
    let structure_is = structure_again structure (structure_of structure) (structure_taken structure) parts.2 in
    let rows_is = nth_name-number_of dims rows (among_below dims rows rows_known) in
    let cols_is = nth_name-number_of dims cols (among_below dims cols cols_known) in
    λ i. first_is i ∷ name ∷ sym structure_is i ∷ sym rows_is i ∷ sym cols_is i ∷ []

-- an operand's line that has no fault but perhaps in its name: its words, and what holds of the operand
pub record LineOf (dims : List (List ℕ)) (word : List ℕ) (words : List (List ℕ)) (o : Operand) : Type 0 where
  pub spelled : words ≡ operand_line dims word o
  pub valid : IsOperand dims o
  pub named : IsTrue (is_name o.name)

-- an operand that isn't misshapen
square_taken : (o : Operand) → is_misshapen o ≡ false → o.structure ≢ General → o.rows ≡ o.cols
square_taken o h not_general = elim (and_cases (not (is_general o.structure)) (not (o.rows == o.cols)) h) [
  | inl general ↦ absurd (not_general (is_it o.structure (not-false (is_general o.structure) general)))
  | inr square ↦ eqb-true o.rows o.cols (not-false (o.rows == o.cols) square)
]
  where
    is_it : (s : Structure) → is_general s ≡ true → s ≡ General
    is_it General e = refl
    is_it _ e = absurd cc

-- the operand is as its line says
pub operand_taken : (dims : List (List ℕ)) (word : List ℕ) (names words : List (List ℕ)) → is_operand_line word words ≡ true
    → is_name_taken names (operand_of dims words).name ≡ false → has_unknown_dim dims words ≡ false → is_misshapen (operand_of dims words) ≡ false
    → LineOf dims word words (operand_of dims words)
operand_taken dims word names (first ∷ name ∷ structure ∷ rows ∷ cols ∷ []) is free known shaped =
    let dims_known = or_parts (not (is_among dims rows)) (not (is_among dims cols)) known in
    let rows_known = not-false (is_among dims rows) dims_known.0 in
    let cols_known = not-false (is_among dims cols) dims_known.1 in
    let o = operand_of dims (first ∷ name ∷ structure ∷ rows ∷ cols ∷ []) in
    record {
      spelled = line_taken dims word first name structure rows cols is rows_known cols_known;
      valid = record {
        rows = among_below dims rows rows_known;
        cols = among_below dims cols cols_known;
        square = square_taken o shaped;
        not_solution = text_is_not name (codes "X") (or_parts (bytes_eq name (codes "X")) (is_among names name) free).0;
      };
      named = (all_of_five (bytes_eq first word) (is_name name) (is_structure (structure_of structure)) (is_name rows) (is_name cols) is).1;
    }
operand_taken dims word names _ is free known shaped = absurd cc

-- the work operand's line
pub work_taken : (dims : List (List ℕ)) (line : Line) (work : Operand) → work_at dims line ≡ Ok work → LineOf dims (codes "work") line.words work × IsTrue (may_be_work work.structure)
unfolding work_at
work_taken dims line work e =
    let form = passed_by _ _ _ work e in
    let name = passed_by _ _ _ work form.1 in
    let known = passed_by _ _ _ work name.1 in
    let shape = passed_by _ _ _ work known.1 in
    let may_be = passed_by _ _ _ work shape.1 in
    let taken = operand_taken dims (codes "work") [] line.words (not-false _ form.0) name.0 known.0 shape.0 in
    subst (λ o. LineOf dims (codes "work") line.words o × IsTrue (may_be_work o.structure)) (same_ok _ work may_be.1) (taken, not-false _ may_be.0)

-- a known operand's line, behind others
pub record KnownTaken (dims : List (List ℕ)) (work : Operand) (knowns : List Operand) (line : Line) (o : Operand) : Type 0 where
  pub line_is : LineOf dims (codes "known") line.words o
  pub few : length knowns < known_limit
  pub new : All (λ name. name ≢ o.name) (names_of work knowns)

pub known_taken : (dims : List (List ℕ)) (work : Operand) (knowns : List Operand) (line : Line) (o : Operand) → known_at dims work knowns line ≡ Ok o → KnownTaken dims work knowns line o
unfolding known_at
known_taken dims work knowns line o e =
    let form = passed_by _ _ _ o e in
    let few = passed_by _ _ _ o form.1 in
    let name = passed_by _ _ _ o few.1 in
    let known = passed_by _ _ _ o name.1 in
    let shape = passed_by _ _ _ o known.1 in
    let own = (operand_of dims line.words).name in
    subst (KnownTaken dims work knowns line) (same_ok _ o shape.1) (record {
      line_is = operand_taken dims (codes "known") (names_of work knowns) line.words (not-false _ form.0) name.0 known.0 shape.0;
      few = leb-false known_limit (length knowns) few.0;
      new = none_is (names_of work knowns) own (or_parts (bytes_eq own (codes "X")) (is_among (names_of work knowns) own) name.0).1;
    })
