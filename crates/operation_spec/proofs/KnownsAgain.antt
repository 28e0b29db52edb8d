-- The lines of the known operands are read as these, up to the equation's line. Cited by the law that an operation's lines
-- are read as the operation.
use Rattle.std.proofs.Common.{◌≡◌, ◌≢◌, ℕ, ◌<◌, ◌≤◌, true, false, List, [], ◌∷◌, ◌++◌, length, get_or, map, codes, Ok, refl, sym, ap, ◌∙◌, subst, arith, append_assoc, length-append}
use Rattle.std.specs.Prelude.{All, AllPairs}
use Rattle.std.proofs.lemmas.List.{append-nil, map-append, get_or_append_left, get_or_at}
use Rattle.std.proofs.lemmas.List.Elements.{All-head, All-tail}
use Rattle.text_scan.specs.LineOrder.{AreLines}
use Rattle.text_scan.specs.Lines.{Line, begins_with}
use Rattle.operation_spec.specs.declared.operation.Operand.{Operand}
use Rattle.operation_spec.specs.OperationFaults.{known_at, knowns_at, names_of}
use Rattle.operation_spec.specs.OperationLines.{operand_line}
use Rattle.operation_spec.specs.ValidOperations.{known_limit}
use Rattle.operation_spec.proofs.DeclaredAgain.{AreDims, IsNamedOperand, known_at-line}
use Rattle.operation_spec.proofs.InnerLines.{AreLines-others, number-inside}

-- ---- the names before an operand's

-- each item differs from a later one
earlier_differ : {X : Type 0} (xs : List X) (y : X) (ys : List X) → AllPairs (λ a b. a ≢ b) (xs ++ y ∷ ys) → All (λ x. x ≢ y) xs
earlier_differ xs y ys once k d below same =
    let within : length xs < length (xs ++ y ∷ ys) = omega (arith, length-append xs (y ∷ ys)) in
    let here : get_or (xs ++ y ∷ ys) k d ≡ get_or xs k d = get_or_append_left xs (y ∷ ys) d k below in
    once k (length xs) d below within (here ∙ same ∙ sym (get_or_at xs y ys d (length xs) refl))

names_of-append : (work : Operand) (found : List Operand) (o : Operand) (os : List Operand) → names_of work (found ++ o ∷ os) ≡ names_of work found ++ o.name ∷ map (λ p. p.name) os
names_of-append work found o os = ap (λ (names : List (List ℕ)). work.name ∷ names) (map-append (λ (p : Operand). p.name) found (o ∷ os))

other_name : (work : Operand) (found : List Operand) (o : Operand) (os all : List Operand) → AllPairs (λ a b. a ≢ b) (names_of work all) → found ++ o ∷ os ≡ all
    → All (λ name. name ≢ o.name) (names_of work found)
other_name work found o os all once parts =
    earlier_differ (names_of work found) o.name (map (λ p. p.name) os)
    (subst (λ (names : List (List ℕ)). AllPairs (λ a b. a ≢ b) names) (ap (names_of work) (sym parts) ∙ names_of-append work found o os) once)

-- ---- the lines

-- a line that begins with the word is read as an operand, and more behind it
one_more_known : (end : ℕ) (dims : List (List ℕ)) (work : Operand) (found : List Operand) (line : Line) (lines : List Line) (o : Operand)
    → AreLines end (line ∷ lines) → 0 < length lines → begins_with (codes "known") line.words ≡ true → known_at dims work found line ≡ Ok o
    → knowns_at end dims work found (line ∷ lines) ≡ knowns_at end dims work (found ++ o ∷ []) lines
unfolding knowns_at
one_more_known end dims work found line lines o are more begins read = rw (number-inside end line lines are more, begins, read) refl

-- the line of the equation
no_more_known : (end : ℕ) (dims : List (List ℕ)) (work : Operand) (found : List Operand) (line : Line) (lines : List Line)
    → AreLines end (line ∷ lines) → 0 < length lines → begins_with (codes "known") line.words ≡ false
    → knowns_at end dims work found (line ∷ lines) ≡ Ok (record { operands = found; line = line; rest = lines })
unfolding knowns_at
no_more_known end dims work found line lines are more other = rw (number-inside end line lines are more, other) refl

pub knowns_at-lines : (end : ℕ) (dims : List (List ℕ)) (work : Operand) (found os all : List Operand) (own : List Line) (line : Line) (lines : List Line)
    → AreDims dims → AllPairs (λ a b. a ≢ b) (names_of work all) → length all ≤ known_limit → found ++ os ≡ all → All (IsNamedOperand dims) os
    → map (λ (l : Line). l.words) own ≡ map (operand_line dims (codes "known")) os → AreLines end (own ++ line ∷ lines) → 0 < length lines → begins_with (codes "known") line.words ≡ false
    → knowns_at end dims work found (own ++ line ∷ lines) ≡ Ok (record { operands = all; line = line; rest = lines })
knowns_at-lines end dims work found [] all [] line lines are once few parts named words in_order more other =
    no_more_known end dims work found line lines in_order more other
    ∙ ap (λ (operands : List Operand). Ok (record { operands = operands; line = line; rest = lines })) (sym (append-nil found) ∙ parts)
knowns_at-lines end dims work found [] all (l ∷ own) line lines are once few parts named words in_order more other = absurd cc
knowns_at-lines end dims work found (o ∷ os) all [] line lines are once few parts named words in_order more other = absurd cc
knowns_at-lines end dims work found (o ∷ os) all (l ∷ own) line lines are once few parts named words in_order more other =
    let here : l.words ≡ operand_line dims (codes "known") o = cc in
    let below : length found < known_limit = omega (arith, length-append found (o ∷ os), ap length parts) in
    let behind : 0 < length (own ++ line ∷ lines) = omega (arith, length-append own (line ∷ lines)) in
    one_more_known end dims work found l (own ++ line ∷ lines) o in_order behind (ap (begins_with (codes "known")) here)
    (known_at-line dims work found l o here are (All-head (IsNamedOperand dims) o os named) below (other_name work found o os all once parts))
    ∙ knowns_at-lines end dims work (found ++ o ∷ []) os all own line lines are once few (append_assoc found (o ∷ []) os ∙ parts)
    (All-tail (IsNamedOperand dims) o os named) (cc) (AreLines-others end l (own ++ line ∷ lines) in_order) more other
