-- The lines of the known operands that were read, and what holds of these. Cited by the laws of operation texts.
use Rattle.std.proofs.Common.{◌≡◌, ◌≢◌, ℕ, ◌≤◌, Bool, true, false, ◌==◌, if◌then◌else◌, List, [], ◌∷◌, ◌++◌, length, map, codes, Ok, IsTrue, All, AllPairs, refl, sym, ap, ◌∙◌, subst, arith, append_assoc, append-nil, length-append}
use Rattle.std.proofs.lemmas.List.{map-append}
use Rattle.std.proofs.lemmas.List.Elements.{All-nil, All-push}
use Rattle.std.proofs.lemmas.List.Quantifiers.{all_pairs_push}
use Rattle.byte_texts.specs.Reading.{◌>>=◌}
use Rattle.byte_texts.proofs.Binding.{bind_ok, same_ok}
use Rattle.text_scan.specs.Lines.{Line, begins_with}
use Rattle.text_scan.specs.Words.{is_name}
use Rattle.text_scan.proofs.FaultTests.{passed_by}
use Rattle.operation_spec.specs.declared.operation.Operand.{Operand}
use Rattle.operation_spec.specs.OperationFaults.{Knowns, known_at, knowns_at, names_of}
use Rattle.operation_spec.specs.OperationLines.{operand_line}
use Rattle.operation_spec.specs.ValidOperations.{IsOperand, known_limit}
use Rattle.operation_spec.proofs.OperandTaken.{KnownTaken, known_taken}

-- what holds of known operands, beside the work operand
pub record AreKnowns (dims : List (List ℕ)) (work : Operand) (knowns : List Operand) : Type 0 where
  pub valid : All (IsOperand dims) knowns
  pub named : All (λ o. IsTrue (is_name o.name)) knowns
  pub once : AllPairs (λ a b. a ≢ b) (names_of work knowns)
  pub few : length knowns ≤ known_limit

pub no_knowns : (dims : List (List ℕ)) (work : Operand) → AreKnowns dims work []
no_knowns dims work = record {
  valid = All-nil (IsOperand dims);
  named = All-nil (λ (o : Operand). IsTrue (is_name o.name));
  once = λ i j d before below. absurd (omega arith);
  few = omega arith;
}

-- with one more
one_known_more : (dims : List (List ℕ)) (work : Operand) (knowns : List Operand) (line : Line) (o : Operand) → AreKnowns dims work knowns → KnownTaken dims work knowns line o
    → AreKnowns dims work (knowns ++ o ∷ [])
one_known_more dims work knowns line o are more = record {
  valid = All-push (IsOperand dims) knowns o are.valid more.line_is.valid;
  named = All-push (λ (o : Operand). IsTrue (is_name o.name)) knowns o are.named more.line_is.named;
  once = subst (AllPairs (λ a b. a ≢ b)) (sym (ap (λ (names : List (List ℕ)). work.name ∷ names) (map-append (λ (o : Operand). o.name) knowns (o ∷ []))))
      (all_pairs_push (λ a b. a ≢ b) (names_of work knowns) o.name are.once more.new);
  few = omega (arith, more.few, length-append knowns (o ∷ []));
}

-- lines that were read as known operands behind those found, up to another line
pub record KnownsTaken (dims : List (List ℕ)) (work : Operand) (found : List Operand) (lines : List Line) (k : Knowns) : Type 0 where
  pub own : List Line
  pub new : List Operand
  pub lines_are : lines ≡ own ++ (k.line ∷ k.rest)
  pub words_are : map (λ line. line.words) own ≡ map (operand_line dims (codes "known")) new
  pub operands_are : k.operands ≡ found ++ new
  pub are : AreKnowns dims work k.operands

module _ (end : ℕ) (dims : List (List ℕ)) (work : Operand) (found : List Operand) (line : Line) (lines : List Line) (k : Knowns) (are : AreKnowns dims work found) where
  -- a line that is a known operand's, where what is behind it was read
  known_first : (o : Operand) → KnownTaken dims work found line o → KnownsTaken dims work (found ++ o ∷ []) lines k → KnownsTaken dims work found (line ∷ lines) k
  known_first o taken others = record {
    own = line ∷ others.own;
    new = o ∷ others.new;
    lines_are = ap (λ (l : List Line). line ∷ l) others.lines_are;
    words_are = λ i. taken.line_is.spelled i ∷ others.words_are i;
    operands_are = others.operands_are ∙ append_assoc found (o ∷ []) others.new;
    are = others.are;
  }

  -- one more line, that of a known operand or the first behind them
  at_line : ((o : Operand) → AreKnowns dims work (found ++ o ∷ []) → knowns_at end dims work (found ++ o ∷ []) lines ≡ Ok k → KnownsTaken dims work (found ++ o ∷ []) lines k)
      → (b : Bool) → (if b then (known_at dims work found line >>= λ o. knowns_at end dims work (found ++ o ∷ []) lines) else Ok (record { operands = found; line = line; rest = lines })) ≡ Ok k
      → KnownsTaken dims work found (line ∷ lines) k
  at_line behind true e =
      let step = bind_ok (known_at dims work found line) (λ o. knowns_at end dims work (found ++ o ∷ []) lines) k e in
      let taken = known_taken dims work found line step.0 step.1 in
      known_first step.0 taken (behind step.0 (one_known_more dims work found line step.0 are taken) step.2)
  at_line behind false e = subst (KnownsTaken dims work found (line ∷ lines)) (same_ok _ k e)
      (record { own = []; new = []; lines_are = refl; words_are = refl; operands_are = sym (append-nil found); are = are })

pub knowns_taken : (end : ℕ) (dims : List (List ℕ)) (work : Operand) (found : List Operand) (lines : List Line) (k : Knowns) → AreKnowns dims work found
    → knowns_at end dims work found lines ≡ Ok k → KnownsTaken dims work found lines k
unfolding knowns_at
knowns_taken end dims work found [] k are e = absurd cc
knowns_taken end dims work found (line ∷ lines) k are e =
    let inner = passed_by (line.number == end) _ _ k e in
    at_line end dims work found line lines k are (λ o more rest. knowns_taken end dims work (found ++ o ∷ []) lines k more rest) (begins_with (codes "known") line.words) inner.1
