-- The names of an operation that lines of a text spell are words. Cited by the law that what is read is spelled so.
use Rattle.std.proofs.Common.{◌≡◌, ℕ, suc, not, ◌==◌, List, [], ◌∷◌, ◌++◌, length, get_or, map, codes, subst, arith}
use Rattle.std.specs.Prelude.{All, IsTrue}
use Rattle.std.proofs.lemmas.Bool.{and_parts}
use Rattle.std.proofs.lemmas.List.{length-map, get_or-map}
use Rattle.std.proofs.lemmas.List.Elements.{All-cons, All-tail, All-append, All-map}
use Rattle.std.proofs.lemmas.List.Sums.{AllPass-from_list_all}
use Rattle.text_scan.specs.LineOrder.{AreLines}
use Rattle.text_scan.specs.Lines.{Line}
use Rattle.text_scan.specs.NormalTexts.{is_line}
use Rattle.text_scan.specs.Words.{is_word}
use Rattle.operation_spec.specs.declared.operation.Operand.{Operand}
use Rattle.operation_spec.specs.declared.operation.Operation.{Operation}
use Rattle.operation_spec.specs.OperationLines.{equation_words, operand_line, operation_lines}
use Rattle.operation_spec.specs.ValidOperations.{all_names, operands_of}
use Rattle.operation_spec.proofs.ListParts.{All-front}
use Rattle.operation_spec.proofs.PrintedLines.{are_words}

-- what stands on a line
words_of_line : (words : List (List ℕ)) → IsTrue (is_line words) → All (λ w. IsTrue (is_word w)) words
words_of_line words is = AllPass-from_list_all is_word words (and_parts (not (length words == 0)) (are_words words) is).1

-- the name on an operand's line
name_on_line : (dims : List (List ℕ)) (word : List ℕ) (o : Operand) → IsTrue (is_line (operand_line dims word o)) → IsTrue (is_word o.name)
name_on_line dims word o is = words_of_line (operand_line dims word o) is 1 [] (omega arith)

-- the names of the known operands, from the lines behind the first three
names_of_knowns : (op : Operation) (others : List (List (List ℕ))) → All (λ words. IsTrue (is_line words)) (map (operand_line op.dims (codes "known")) op.knowns ++ others)
    → All (λ o. IsTrue (is_word o.name)) op.knowns
names_of_knowns op others lines k d below =
    let line = operand_line op.dims (codes "known") in
    let here : IsTrue (is_line (get_or (map line op.knowns) k [])) = All-front (λ words. IsTrue (is_line words)) (map line op.knowns) others lines k [] (omega (arith, length-map op.knowns line)) in
    name_on_line op.dims (codes "known") (get_or op.knowns k d) (subst (λ words. IsTrue (is_line words)) (get_or-map line op.knowns k d [] below) here)

-- all names, from all lines
names_of_lines : (op : Operation) → All (λ words. IsTrue (is_line words)) (operation_lines op) → All (λ name. IsTrue (is_word name)) (all_names op)
names_of_lines op lines =
    let word = λ (w : List ℕ). IsTrue (is_word w) in
    let name = words_of_line (codes "operation" ∷ op.name ∷ []) (lines 0 [] (omega arith)) 1 [] (omega arith) in
    let dims = All-tail word (codes "dims") op.dims (words_of_line (codes "dims" ∷ op.dims) (lines 1 [] (omega arith))) in
    let work = name_on_line op.dims (codes "work") op.work (lines 2 [] (omega arith)) in
    let knowns = names_of_knowns op ((codes "equation" ∷ equation_words op) ∷ (codes "end" ∷ []) ∷ []) (λ k d below. lines (suc (suc (suc k))) d (omega arith)) in
    All-cons word op.name (op.dims ++ map (λ o. o.name) (operands_of op)) name
    (All-append word op.dims (map (λ o. o.name) (operands_of op)) dims
    (All-map word (λ (o : Operand). o.name) (operands_of op) (All-cons (λ (o : Operand). IsTrue (is_word o.name)) op.work op.knowns work knowns)))

pub spelled_names_are_words : (end : ℕ) (lines own rest : List Line) (op : Operation) → AreLines end lines → lines ≡ own ++ rest → map (λ line. line.words) own ≡ operation_lines op
    → All (λ name. IsTrue (is_word name)) (all_names op)
spelled_names_are_words end lines own rest op are parts same =
    let line = λ (words : List (List ℕ)). IsTrue (is_line words) in
    let front = All-front (λ (l : Line). IsTrue (is_line l.words)) own rest (subst (λ (ls : List Line). All (λ l. IsTrue (is_line l.words)) ls) parts are.words) in
    names_of_lines op (subst (λ (ls : List (List (List ℕ))). All (λ words. IsTrue (is_line words)) ls) same (All-map line (λ (l : Line). l.words) own front))
