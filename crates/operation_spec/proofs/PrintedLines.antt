-- Each line of an operation has words. Cited by the law that an operation's normal text is made of lines.
use Rattle.std.proofs.Common.{ℕ, suc, ◌<◌, Bool, true, false, not, ◌==◌, cond, List, [], ◌∷◌, ◌++◌, length, get_or, map, codes, refl, ap, ◌∙◌, subst, arith}
use Rattle.std.specs.Prelude.{All, IsTrue}
use Rattle.std.specs.List.{flat_map, list_all}
use Rattle.std.proofs.lemmas.Bool.{and_from, ne_eqb}
use Rattle.std.proofs.lemmas.List.{length-map, get_or-map}
use Rattle.std.proofs.lemmas.List.Elements.{All-nil, All-cons, All-head, All-tail, All-append, All-map}
use Rattle.std.proofs.lemmas.List.Folds.{list_all-append}
use Rattle.std.proofs.lemmas.List.Sums.{list_all-from_AllPass}
use Rattle.structure_rules.specs.declared.Structure.{Structure}
use Rattle.structure_rules.specs.declared.Structure.TheVariants.{General, Lower, UnitLower, Upper, UnitUpper, Diagonal, Symmetric}
use Rattle.text_scan.specs.NormalTexts.{is_line}
use Rattle.text_scan.specs.Words.{is_word}
use Rattle.operation_spec.specs.declared.operation.Factor.{Factor}
use Rattle.operation_spec.specs.declared.operation.Form.{Form}
use Rattle.operation_spec.specs.declared.operation.Form.TheVariants.{Assign, Left, Right, Sylvester, Lu, Ldl}
use Rattle.operation_spec.specs.declared.operation.Operand.{Operand}
use Rattle.operation_spec.specs.declared.operation.Operation.{Operation}
use Rattle.operation_spec.specs.declared.operation.Term.{Term}
use Rattle.operation_spec.specs.OperationLines.{nth_name, factor_words, sign_word, term_words, left_words, known_names, equation_words, structure_word, operand_line, operation_lines}
use Rattle.operation_spec.specs.ValidOperations.{HasNames, IsValid, IsOperand, operands_of, factors_of_form}
use Rattle.operation_spec.proofs.ListParts.{All-front, All-behind}

-- each of them is the text of a token
abbrev pub are_words : List (List ℕ) → Bool
are_words = list_all is_word

-- ---- lists of words

are_words-append : (xs ys : List (List ℕ)) → IsTrue (are_words xs) → IsTrue (are_words ys) → IsTrue (are_words (xs ++ ys))
are_words-append xs ys first second = list_all-append is_word xs ys ∙ and_from (are_words xs) (are_words ys) first second

is_line-words : (w : List ℕ) (words : List (List ℕ)) → IsTrue (is_word w) → IsTrue (are_words words) → IsTrue (is_line (w ∷ words))
is_line-words w words first others =
    and_from (not (length (w ∷ words) == 0)) (are_words (w ∷ words)) (ap not (ne_eqb (length (w ∷ words)) 0 (λ none. omega arith))) (and_from (is_word w) (are_words words) first others)

-- ---- an operand's line

is_word-structure : (s : Structure) → IsTrue (is_word (structure_word s))
is_word-structure General = refl
is_word-structure Lower = refl
is_word-structure UnitLower = refl
is_word-structure Upper = refl
is_word-structure UnitUpper = refl
is_word-structure Diagonal = refl
is_word-structure Symmetric = refl

is_line-operand : (dims : List (List ℕ)) (word : List ℕ) (o : Operand) → IsTrue (is_word word) → All (λ name. IsTrue (is_word name)) dims → IsOperand dims o → IsTrue (is_word o.name)
    → IsTrue (is_line (operand_line dims word o))
is_line-operand dims word o first names is own =
    is_line-words word (o.name ∷ structure_word o.structure ∷ nth_name dims o.rows ∷ nth_name dims o.cols ∷ []) first
    (rw (own, is_word-structure o.structure, names o.rows [] is.rows, names o.cols [] is.cols) refl)

-- ---- the equation's line

module _ (knowns : List (List ℕ)) (names : All (λ name. IsTrue (is_word name)) knowns) where
  are_words-factor : (f : Factor) → f.known < length knowns → IsTrue (are_words (factor_words knowns f))
  are_words-factor f below = by_mark f.primed
    where
      by_mark : (primed : Bool) → IsTrue (are_words (nth_name knowns f.known ∷ cond primed (codes "'" ∷ []) []))
      by_mark true = rw (names f.known [] below) refl
      by_mark false = rw (names f.known [] below) refl

  is_word-sign : (minus : Bool) → IsTrue (is_word (sign_word minus))
  is_word-sign true = refl
  is_word-sign false = refl

  -- `T * X`
  are_words-left_product : (t : Factor) → t.known < length knowns → IsTrue (are_words (factor_words knowns t ++ codes "*" ∷ codes "X" ∷ []))
  are_words-left_product t below = are_words-append (factor_words knowns t) (codes "*" ∷ codes "X" ∷ []) (are_words-factor t below) refl

  are_words-left : (form : Form) → All (λ f. f.known < length knowns) (factors_of_form form) → IsTrue (are_words (left_words knowns form))
  are_words-left Assign below = refl
  are_words-left (Left t) below = are_words-left_product t (below 0 t (omega arith))
  are_words-left (Right t) below = are_words-factor t (below 0 t (omega arith))
  are_words-left (Sylvester t u minus) below =
      are_words-append (factor_words knowns t) (codes "*" ∷ codes "X" ∷ sign_word minus ∷ codes "X" ∷ codes "*" ∷ factor_words knowns u) (are_words-factor t (below 0 t (omega arith)))
      (rw (is_word-sign minus, are_words-factor u (below 1 t (omega arith))) refl)
  are_words-left Lu below = refl
  are_words-left Ldl below = refl

  are_words-term : (term : Term) → term.first.known < length knowns → term.second.known < length knowns → IsTrue (are_words (term_words knowns term))
  are_words-term term first second =
      and_from (is_word (sign_word term.minus)) (are_words (factor_words knowns term.first ++ codes "*" ∷ factor_words knowns term.second)) (is_word-sign term.minus)
      (are_words-append (factor_words knowns term.first) (codes "*" ∷ factor_words knowns term.second) (are_words-factor term.first first) (are_words-factor term.second second))

  are_words-terms : (terms : List Term) → All (λ f. f.known < length knowns) (flat_map (λ term. term.first ∷ term.second ∷ []) terms) → IsTrue (are_words (flat_map (term_words knowns) terms))
  are_words-terms [] below = refl
  are_words-terms (term ∷ terms) below =
      let in_range = λ (f : Factor). f.known < length knowns in
      let others = flat_map (λ (t : Term). t.first ∷ t.second ∷ []) terms in
      let behind = All-tail in_range term.first (term.second ∷ others) below in
      are_words-append (term_words knowns term) (flat_map (term_words knowns) terms)
      (are_words-term term (All-head in_range term.first (term.second ∷ others) below) (All-head in_range term.second others behind))
      (are_words-terms terms (All-tail in_range term.second others behind))

-- ---- all lines

names_of_operands : (op : Operation) → HasNames op → All (λ o. IsTrue (is_word o.name)) (operands_of op)
names_of_operands op has =
    let behind = All-tail (λ name. IsTrue (is_word name)) op.name (op.dims ++ map (λ (o : Operand). o.name) (operands_of op)) has.words in
    let names = All-behind (λ name. IsTrue (is_word name)) op.dims (map (λ (o : Operand). o.name) (operands_of op)) behind in
    λ k d below. subst (λ w. IsTrue (is_word w)) (get_or-map (λ (o : Operand). o.name) (operands_of op) k d [] below) (names k [] (omega (arith, length-map (operands_of op) (λ (o : Operand). o.name))))

names_of_dims : (op : Operation) → HasNames op → All (λ name. IsTrue (is_word name)) op.dims
names_of_dims op has =
    All-front (λ name. IsTrue (is_word name)) op.dims (map (λ (o : Operand). o.name) (operands_of op))
    (All-tail (λ name. IsTrue (is_word name)) op.name (op.dims ++ map (λ (o : Operand). o.name) (operands_of op)) has.words)

are_words-equation : (op : Operation) → IsValid op → HasNames op → IsTrue (are_words (equation_words op))
are_words-equation op valid has =
    let terms = flat_map (λ (term : Term). term.first ∷ term.second ∷ []) op.terms in
    let operands = names_of_operands op has in
    let known : All (λ name. IsTrue (is_word name)) (known_names op) = All-map (λ name. IsTrue (is_word name)) (λ (o : Operand). o.name) op.knowns (All-tail (λ (o : Operand). IsTrue (is_word o.name)) op.work op.knowns operands) in
    let count = length-map op.knowns (λ (o : Operand). o.name) in
    are_words-append (left_words (known_names op) op.form) (codes "=" ∷ op.work.name ∷ flat_map (term_words (known_names op)) op.terms)
    (are_words-left (known_names op) known op.form (λ k d below. let here = All-front (λ (f : Factor). f.known < length op.knowns) (factors_of_form op.form) terms valid.factors k d below in omega (arith, here, count)))
    (and_from (is_word op.work.name) (are_words (flat_map (term_words (known_names op)) op.terms)) (All-head (λ (o : Operand). IsTrue (is_word o.name)) op.work op.knowns operands)
    (are_words-terms (known_names op) known op.terms (λ k d below. let here = All-behind (λ (f : Factor). f.known < length op.knowns) (factors_of_form op.form) terms valid.factors k d below in omega (arith, here, count))))

are_lines-knowns : (op : Operation) → IsValid op → HasNames op → All (λ words. IsTrue (is_line words)) (map (operand_line op.dims (codes "known")) op.knowns)
are_lines-knowns op valid has =
    All-map (λ words. IsTrue (is_line words)) (operand_line op.dims (codes "known")) op.knowns
    (λ k d below. is_line-operand op.dims (codes "known") (get_or op.knowns k d) refl (names_of_dims op has) (valid.operands (suc k) d (omega arith)) (names_of_operands op has (suc k) d (omega arith)))

-- the lines of the name, of the dimensions and of the work operand, before others
printed_front : (op : Operation) (lines : List (List (List ℕ))) → IsValid op → HasNames op → All (λ words. IsTrue (is_line words)) lines
    → All (λ words. IsTrue (is_line words)) ((codes "operation" ∷ op.name ∷ []) ∷ (codes "dims" ∷ op.dims) ∷ operand_line op.dims (codes "work") op.work ∷ lines)
printed_front op lines valid has others =
    let dims = names_of_dims op has in
    let work = is_line-operand op.dims (codes "work") op.work refl dims (valid.operands 0 op.work (omega arith)) (names_of_operands op has 0 op.work (omega arith)) in
    let name = is_line-words (codes "operation") (op.name ∷ []) refl (and_from (is_word op.name) true (has.words 0 [] (omega arith)) refl) in
    let printed = λ (words : List (List ℕ)). IsTrue (is_line words) in
    All-cons printed (codes "operation" ∷ op.name ∷ []) ((codes "dims" ∷ op.dims) ∷ operand_line op.dims (codes "work") op.work ∷ lines) name
    (All-cons printed (codes "dims" ∷ op.dims) (operand_line op.dims (codes "work") op.work ∷ lines) (is_line-words (codes "dims") op.dims refl (list_all-from_AllPass is_word op.dims dims))
    (All-cons printed (operand_line op.dims (codes "work") op.work) lines work others))

-- those of the equation and the last one
printed_end : (op : Operation) → IsValid op → HasNames op → All (λ words. IsTrue (is_line words)) ((codes "equation" ∷ equation_words op) ∷ (codes "end" ∷ []) ∷ [])
printed_end op valid has =
    let printed = λ (words : List (List ℕ)). IsTrue (is_line words) in
    All-cons printed (codes "equation" ∷ equation_words op) ((codes "end" ∷ []) ∷ []) (is_line-words (codes "equation") (equation_words op) refl (are_words-equation op valid has))
    (All-cons printed (codes "end" ∷ []) [] refl (All-nil printed))

pub printed_lines : (op : Operation) → IsValid op → HasNames op → All (λ words. IsTrue (is_line words)) (operation_lines op)
printed_lines op valid has =
    printed_front op (map (operand_line op.dims (codes "known")) op.knowns ++ (codes "equation" ∷ equation_words op) ∷ (codes "end" ∷ []) ∷ []) valid has
    (All-append (λ words. IsTrue (is_line words)) (map (operand_line op.dims (codes "known")) op.knowns) ((codes "equation" ∷ equation_words op) ∷ (codes "end" ∷ []) ∷ [])
    (are_lines-knowns op valid has) (printed_end op valid has))
