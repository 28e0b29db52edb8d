-- Lines of known operands, one after another.
use Rattle.std.proofs.Common.{◌≡◌, ℕ, Bool, true, false, cond, ◌==◌, List, [], ◌∷◌, ◌++◌, codes, Result, Ok, Err, Option, refl, sym, ap, ◌∙◌}
use Rattle.std.proofs.lemmas.Bool.{eqb-true}
use Rattle.byte_texts.specs.Reading.{◌>>=◌, EndsWith}
use Rattle.byte_texts.proofs.Binding.{EndsWith-along, EndsWith-bind}
use Rattle.text_scan.specs.FaultKinds.{Syntax}
use Rattle.text_scan.specs.Faults.{Fault, ◌on◌}
use Rattle.text_scan.specs.Lines.{Line, inner_line, begins_with}
use Rattle.operation_spec.specs.declared.operation.Operand.{Operand}
use Rattle.operation_spec.specs.OperationFaults.{Knowns, known_at, knowns_at}

-- ---- known operands

-- those from a line on
abbrev pub knowns_from : ℕ → List (List ℕ) → Operand → List Operand → Line → List Line → Result Knowns Fault
knowns_from end dims work found line lines =
    cond (begins_with (codes "known") line.words) (known_at dims work found line >>= λ o. knowns_at end dims work (found ++ o ∷ []) lines) (Ok (record { operands = found; line = line; rest = lines }))

-- they are read from the line that is due
pub knowns_at-inner : (end : ℕ) (dims : List (List ℕ)) (work : Operand) (found : List Operand) (lines : List Line)
    → knowns_at end dims work found lines ≡ (inner_line end lines >>= λ (next : Line × List Line). knowns_from end dims work found next.0 next.1)
unfolding knowns_at
knowns_at-inner end dims work found [] = refl
knowns_at-inner end dims work found (line ∷ lines) = by_test (line.number == end) refl
  where
    by_test : (b : Bool) → (line.number == end) ≡ b → cond b (Err (Syntax on line.number)) (knowns_from end dims work found line lines)
        ≡ (cond b (Err (Syntax on end)) (Ok (line, lines)) >>= λ (next : Line × List Line). knowns_from end dims work found next.0 next.1)
    by_test true here = ap (λ n. Err (Syntax on n)) (eqb-true line.number end here)
    by_test false other = refl

-- the line that is due was found
pub knowns_at-line : (end : ℕ) (dims : List (List ℕ)) (work : Operand) (found : List Operand) (lines rest : List Line) (line : Line) → inner_line end lines ≡ Ok (line, rest)
    → knowns_at end dims work found lines ≡ knowns_from end dims work found line rest
knowns_at-line end dims work found lines rest line due = knowns_at-inner end dims work found lines ∙ rw due refl

-- the text ends where it is due
pub knowns_at-fault : (end : ℕ) (dims : List (List ℕ)) (work : Operand) (found : List Operand) (lines : List Line) (fault : Option Fault)
    → EndsWith fault (inner_line end lines) → EndsWith fault (knowns_at end dims work found lines)
knowns_at-fault end dims work found lines fault ends = EndsWith-along fault _ _ (knowns_at-inner end dims work found lines) (EndsWith-bind fault (inner_line end lines) _ ends)

-- it declares an operand more
knowns_from-more : (end : ℕ) (dims : List (List ℕ)) (work o : Operand) (found : List Operand) (line : Line) (lines : List Line) → begins_with (codes "known") line.words ≡ true → known_at dims work found line ≡ Ok o
    → knowns_from end dims work found line lines ≡ knowns_at end dims work (found ++ o ∷ []) lines
knowns_from-more end dims work o found line lines known read = rw (known, read) refl

-- and the line behind it was found, or the text ends there
pub knowns_from-next : (end : ℕ) (dims : List (List ℕ)) (work o : Operand) (found : List Operand) (line next : Line) (lines rest : List Line) (all : Result Knowns Fault) → knowns_from end dims work found line lines ≡ all
    → begins_with (codes "known") line.words ≡ true → known_at dims work found line ≡ Ok o → inner_line end lines ≡ Ok (next, rest) → knowns_from end dims work (found ++ o ∷ []) next rest ≡ all
knowns_from-next end dims work o found line next lines rest all so_far known read due =
    sym (knowns_at-line end dims work (found ++ o ∷ []) lines rest next due) ∙ sym (knowns_from-more end dims work o found line lines known read) ∙ so_far

pub knowns_from-end : (end : ℕ) (dims : List (List ℕ)) (work o : Operand) (found : List Operand) (line : Line) (lines : List Line) (all : Result Knowns Fault) (fault : Option Fault) → knowns_from end dims work found line lines ≡ all
    → begins_with (codes "known") line.words ≡ true → known_at dims work found line ≡ Ok o → EndsWith fault (inner_line end lines) → EndsWith fault all
knowns_from-end end dims work o found line lines all fault so_far known read ends =
    EndsWith-along fault all _ (sym so_far ∙ knowns_from-more end dims work o found line lines known read) (knowns_at-fault end dims work (found ++ o ∷ []) lines fault ends)
