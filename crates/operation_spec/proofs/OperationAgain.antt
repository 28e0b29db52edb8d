-- Lines that spell an operation are read as it. Cited by the law that says so.
use Rattle.std.proofs.Common.{◌≡◌, ◌≢◌, ℕ, ◌<◌, false, List, [], ◌∷◌, ◌++◌, length, map, codes, Ok, refl, ap, ◌∙◌, subst, arith, append_assoc, length-append}
use Rattle.std.specs.Prelude.{All, IsTrue}
use Rattle.std.specs.List.{flat_map}
use Rattle.std.proofs.lemmas.List.{length-map}
use Rattle.std.proofs.lemmas.List.Elements.{All-head, All-tail, All-map}
use Rattle.text_scan.specs.LineOrder.{AreLines}
use Rattle.text_scan.specs.Lines.{Line, inner_line, begins_with}
use Rattle.text_scan.specs.Words.{is_name}
use Rattle.operation_spec.specs.declared.operation.Factor.{Factor}
use Rattle.operation_spec.specs.declared.operation.Form.{Form}
use Rattle.operation_spec.specs.declared.operation.Form.TheVariants.{Assign, Left, Right, Sylvester, Lu, Ldl}
use Rattle.operation_spec.specs.declared.operation.Operand.{Operand}
use Rattle.operation_spec.specs.declared.operation.Operation.{Operation}
use Rattle.operation_spec.specs.declared.operation.Term.{Term}
use Rattle.operation_spec.specs.Equations.{side_of_factor, left_of_form, product_of_term, equation_of_operation}
use Rattle.operation_spec.specs.OperationFaults.{declared_at, operation_at, equation_at, end_at, factor_of, form_of, term_of}
use Rattle.operation_spec.specs.OperationLines.{known_names, operand_line, operation_lines, equation_words}
use Rattle.operation_spec.specs.ValidOperations.{HasNames, IsValid, SpellsOperation, operands_of, factors_of_form, factors_of}
use Rattle.operation_spec.proofs.DeclaredAgain.{AreDims, IsNamedOperand, name_at-line, dims_at-line, work_at-line}
use Rattle.operation_spec.proofs.EquationAgain.{AreOperandNames, equation_of-words}
use Rattle.operation_spec.proofs.ImageParts.{map_cons, map_append, map_nil}
use Rattle.operation_spec.proofs.ListParts.{All-front, All-behind}
use Rattle.operation_spec.proofs.InnerLines.{AreLines-others, inner_line-inside}
use Rattle.operation_spec.proofs.KnownsAgain.{knowns_at-lines}
use Rattle.operation_spec.proofs.SidesAgain.{sides_at-valid}

-- ---- the operation of its equation

factor_of-side : (f : Factor) → factor_of (side_of_factor f) ≡ f
factor_of-side f = ap (λ k. record { known = k; primed = f.primed }) (omega arith)

form_of-left : (form : Form) → form_of (left_of_form form) ≡ form
form_of-left Assign = refl
form_of-left (Left t) = ap Left (factor_of-side t)
form_of-left (Right t) = ap Right (factor_of-side t)
form_of-left (Sylvester t u minus) = ap (λ (f : Factor). Sylvester f (factor_of (side_of_factor u)) minus) (factor_of-side t) ∙ ap (λ (f : Factor). Sylvester t f minus) (factor_of-side u)
form_of-left Lu = refl
form_of-left Ldl = refl

term_of-product : (term : Term) → term_of (product_of_term term) ≡ term
term_of-product term =
    ap (λ (f : Factor). record { minus = term.minus; first = f; second = factor_of (side_of_factor term.second) }) (factor_of-side term.first)
    ∙ ap (λ (f : Factor). record { minus = term.minus; first = term.first; second = f }) (factor_of-side term.second)

terms_of-products : (terms : List Term) → map term_of (map product_of_term terms) ≡ terms
terms_of-products [] = refl
terms_of-products (term ∷ terms) = ap (λ (t : Term). t ∷ map term_of (map product_of_term terms)) (term_of-product term) ∙ ap (λ (ts : List Term). term ∷ ts) (terms_of-products terms)

-- ---- its names and factors

are_operand_names : (op : Operation) → IsValid op → HasNames op → AreOperandNames op.work.name (known_names op)
are_operand_names op valid has = record {
  names = All-map (λ name. IsTrue (is_name name)) (λ (o : Operand). o.name) (operands_of op) has.operands;
  once = valid.names_once;
  not_solution = All-map (λ name. name ≢ codes "X") (λ (o : Operand). o.name) (operands_of op) (λ k d below. (valid.operands k d below).not_solution);
}

are_named_operands : (op : Operation) → IsValid op → HasNames op → All (IsNamedOperand op.dims) (operands_of op)
are_named_operands op valid has k d below = record { is = valid.operands k d below; name = has.operands k d below }

-- the operands that its factors name exist
factors_are_known : (op : Operation) → IsValid op → All (λ f. f.known < length (known_names op)) (factors_of op)
factors_are_known op valid k d below = let known = valid.factors k d below in omega (arith, known, length-map op.knowns (λ (o : Operand). o.name))

-- ---- the last lines

pub equation_at-line : (op : Operation) (line : Line) → line.words ≡ codes "equation" ∷ equation_words op → IsValid op → HasNames op
    → equation_at op.dims op.work op.knowns line ≡ Ok (equation_of_operation op)
unfolding equation_at
equation_at-line op line words valid has =
    let terms = flat_map (λ (term : Term). term.first ∷ term.second ∷ []) op.terms in
    let known = factors_are_known op valid in
    let read = equation_of-words op (are_operand_names op valid has)
    (All-front (λ (f : Factor). f.known < length (known_names op)) (factors_of_form op.form) terms known)
    (All-behind (λ (f : Factor). f.known < length (known_names op)) (factors_of_form op.form) terms known) in
    rw (words, read) (sides_at-valid op line.number valid)

end_at-line : (line : Line) → line.words ≡ codes "end" ∷ [] → end_at line ≡ Ok tt
unfolding end_at
end_at-line line words = rw words refl

-- ---- the lines one by one

-- the lines of an operation
record OwnLines (op : Operation) (own : List Line) : Type 0 where
  first : Line
  dims : Line
  work : Line
  knowns : List Line
  equation : Line
  last : Line
  parts : own ≡ first ∷ dims ∷ work ∷ (knowns ++ equation ∷ last ∷ [])
  first_words : first.words ≡ codes "operation" ∷ op.name ∷ []
  dims_words : dims.words ≡ codes "dims" ∷ op.dims
  work_words : work.words ≡ operand_line op.dims (codes "work") op.work
  knowns_words : map (λ (l : Line). l.words) knowns ≡ map (operand_line op.dims (codes "known")) op.knowns
  equation_words : equation.words ≡ codes "equation" ∷ equation_words op
  last_words : last.words ≡ codes "end" ∷ []

own_lines : (op : Operation) (own : List Line) → map (λ (l : Line). l.words) own ≡ operation_lines op → OwnLines op own
own_lines op own same =
    let words = λ (l : Line). l.words in
    let first = map_cons words own _ _ same in
    let dims = map_cons words first.1 _ _ first.4 in
    let work = map_cons words dims.1 _ _ dims.4 in
    let knowns = map_append words work.1 (map (operand_line op.dims (codes "known")) op.knowns) _ work.4 in
    let equation = map_cons words knowns.1 _ _ knowns.4 in
    let last = map_cons words equation.1 _ _ equation.4 in
    let none : last.1 ≡ [] = map_nil words last.1 last.4 in
    let parts : own ≡ first.0 ∷ dims.0 ∷ work.0 ∷ (knowns.0 ++ equation.0 ∷ last.0 ∷ []) = cc in
    record {
      first = first.0;
      dims = dims.0;
      work = work.0;
      knowns = knowns.0;
      equation = equation.0;
      last = last.0;
      parts = parts;
      first_words = first.3;
      dims_words = dims.3;
      work_words = work.3;
      knowns_words = knowns.3;
      equation_words = equation.3;
      last_words = last.3;
    }

-- ---- all lines

declared_at-lines : (end : ℕ) (op : Operation) (second third : Line) (own : List Line) (line : Line) (lines : List Line) → IsValid op → HasNames op
    → AreLines end (second ∷ third ∷ (own ++ line ∷ lines)) → 0 < length lines → second.words ≡ codes "dims" ∷ op.dims → third.words ≡ operand_line op.dims (codes "work") op.work
    → map (λ (l : Line). l.words) own ≡ map (operand_line op.dims (codes "known")) op.knowns → begins_with (codes "known") line.words ≡ false
    → declared_at end (second ∷ third ∷ (own ++ line ∷ lines)) ≡ Ok (record { dims = op.dims; work = op.work; knowns = record { operands = op.knowns; line = line; rest = lines } })
unfolding declared_at
declared_at-lines end op second third own line lines valid has in_order more dims_words work_words knowns_words other =
    let dims : AreDims op.dims = record { has = valid.dims; names = has.dims } in
    let named = are_named_operands op valid has in
    let behind = AreLines-others end second (third ∷ (own ++ line ∷ lines)) in_order in
    let inside : 0 < length (own ++ line ∷ lines) = omega (arith, length-append own (line ∷ lines)) in
    rw (
      inner_line-inside end second (third ∷ (own ++ line ∷ lines)) in_order (omega arith),
      dims_at-line second op.dims dims_words dims,
      inner_line-inside end third (own ++ line ∷ lines) behind inside,
      work_at-line op.dims third op.work work_words dims (All-head (IsNamedOperand op.dims) op.work op.knowns named) valid.work,
      knowns_at-lines end op.dims op.work [] op.knowns op.knowns own line lines dims valid.names_once valid.few_knowns refl (All-tail (IsNamedOperand op.dims) op.work op.knowns named)
          knowns_words (AreLines-others end third (own ++ line ∷ lines) behind) more other,
    ) refl

-- what the lines say, once those in front of the equation's are read
operation_at-declared : (end : ℕ) (op : Operation) (first : Line) (lines : List Line) (line last : Line) (rest : List Line) → IsValid op → HasNames op
    → inner_line end (first ∷ lines) ≡ Ok (first, lines) → first.words ≡ codes "operation" ∷ op.name ∷ []
    → declared_at end lines ≡ Ok (record { dims = op.dims; work = op.work; knowns = record { operands = op.knowns; line = line; rest = last ∷ rest } })
    → line.words ≡ codes "equation" ∷ equation_words op → last.words ≡ codes "end" ∷ [] → operation_at end (first ∷ lines) ≡ Ok (op, rest)
unfolding operation_at
operation_at-declared end op first lines line last rest valid has inside first_words declared line_words last_words =
    rw (
      inside,
      name_at-line first op.name first_words has.own,
      declared,
      equation_at-line op line line_words valid has,
      end_at-line last last_words,
      form_of-left op.form,
      terms_of-products op.terms,
    ) refl

operation_at-lines : (end : ℕ) (op : Operation) (own rest : List Line) → IsValid op → HasNames op → OwnLines op own → AreLines end (own ++ rest) → operation_at end (own ++ rest) ≡ Ok (op, rest)
operation_at-lines end op own rest valid has l are =
    let lines = l.knowns ++ l.equation ∷ (l.last ∷ rest) in
    let parts : own ++ rest ≡ l.first ∷ l.dims ∷ l.work ∷ lines
    = ap (λ (ls : List Line). ls ++ rest) l.parts ∙ ap (λ (ls : List Line). l.first ∷ l.dims ∷ l.work ∷ ls) (append_assoc l.knowns (l.equation ∷ l.last ∷ []) rest) in
    let in_order : AreLines end (l.first ∷ l.dims ∷ l.work ∷ lines) = subst (AreLines end) parts are in
    let other : begins_with (codes "known") l.equation.words ≡ false = ap (begins_with (codes "known")) l.equation_words in
    ap (operation_at end) parts
    ∙ operation_at-declared end op l.first (l.dims ∷ l.work ∷ lines) l.equation l.last rest valid has
    (inner_line-inside end l.first (l.dims ∷ l.work ∷ lines) in_order (omega arith)) l.first_words
    (declared_at-lines end op l.dims l.work l.knowns l.equation (l.last ∷ rest) valid has (AreLines-others end l.first (l.dims ∷ l.work ∷ lines) in_order) (omega arith)
    l.dims_words l.work_words l.knowns_words other)
    l.equation_words l.last_words

pub spelled_operation_is_read : (end : ℕ) (lines : List Line) (op : Operation) (rest : List Line) → AreLines end lines → SpellsOperation lines op rest → operation_at end lines ≡ Ok (op, rest)
spelled_operation_is_read end lines op rest are spells =
    let own = spells.text.0 in
    let parts : lines ≡ own ++ rest = spells.text.1 in
    ap (operation_at end) parts ∙ operation_at-lines end op own rest spells.valid spells.names (own_lines op own spells.text.2) (subst (AreLines end) parts are)
