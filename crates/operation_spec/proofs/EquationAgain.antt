-- An equation that is spelled is read as it. Cited by the law that an operation's lines are read as the operation.
use Rattle.std.proofs.Common.{◌≡◌, ◌≢◌, ℕ, suc, ◌<◌, Bool, true, false, not, ◌&&◌, List, [], ◌∷◌, ◌++◌, length, get_or, map, codes, Some, refl, sym, ap, ◌∙◌, add-one, arith}
use Rattle.std.specs.Prelude.{All, AllPairs, IsTrue}
use Rattle.std.specs.List.{flat_map}
use Rattle.std.specs.Str.{bytes_eq}
use Rattle.std.proofs.lemmas.Bool.{and_right}
use Rattle.std.proofs.lemmas.List.Elements.{All-head, All-tail}
use Rattle.text_scan.specs.Names.{number_of}
use Rattle.text_scan.specs.Words.{is_name}
use Rattle.operation_spec.specs.declared.equation.Side.{Side}
use Rattle.operation_spec.specs.declared.equation.Product.{Product}
use Rattle.operation_spec.specs.declared.equation.LeftSide.TheVariants.{OnLeft, OnRight, OnBoth}
use Rattle.operation_spec.specs.declared.operation.Factor.{Factor}
use Rattle.operation_spec.specs.declared.operation.Form.{Form}
use Rattle.operation_spec.specs.declared.operation.Form.TheVariants.{Assign, Left, Right, Sylvester, Lu, Ldl}
use Rattle.operation_spec.specs.declared.operation.Operation.{Operation}
use Rattle.operation_spec.specs.declared.operation.Term.{Term}
use Rattle.operation_spec.specs.Equations.{Marked, LeftFront, marked, is_plain, is_factor, side_of, left_at, products_of, with_right, equation_of, side_of_factor, left_of_form, product_of_term, equation_of_operation}
use Rattle.operation_spec.specs.OperationLines.{nth_name, sign_word, term_words, left_words, known_names, equation_words}
use Rattle.operation_spec.specs.ValidOperations.{factors_of_form}
use Rattle.operation_spec.proofs.MarkedWords.{plain, marked_factor, marked_term, no_prime, marked-plain, marked-terms, no_prime-terms, no_prime-name, marked_left, marked-left}
use Rattle.operation_spec.proofs.NamesApart.{bytes_eq-same, bytes_eq-other, number_of-nth}

-- the names of the work operand and of the known ones: all different, and none the solution's
pub record AreOperandNames (work : List ℕ) (knowns : List (List ℕ)) : Type 0 where
  pub names : All (λ name. IsTrue (is_name name)) (work ∷ knowns)
  pub once : AllPairs (λ a b. a ≢ b) (work ∷ knowns)
  pub not_solution : All (λ name. name ≢ codes "X") (work ∷ knowns)

-- ---- factors

pub side_of-factor : (work : List ℕ) (knowns : List (List ℕ)) (f : Factor) → AreOperandNames work knowns → f.known < length knowns
    → side_of (work ∷ knowns) (marked_factor knowns f) ≡ side_of_factor f
side_of-factor work knowns f named below =
    let number : number_of (work ∷ knowns) (nth_name knowns f.known) ≡ suc f.known = number_of-nth (work ∷ knowns) (suc f.known) named.once (omega arith) in
    ap (λ n. record { operand = n; primed = f.primed }) (number ∙ sym (add-one f.known))

pub is_factor-known : (work : List ℕ) (knowns : List (List ℕ)) (f : Factor) → AreOperandNames work knowns → f.known < length knowns → IsTrue (is_factor (marked_factor knowns f))
is_factor-known work knowns f named below = named.names (suc f.known) [] (omega arith)

pub is_plain-solution : (work : List ℕ) (knowns : List (List ℕ)) (f : Factor) → AreOperandNames work knowns → f.known < length knowns → is_plain (codes "X") (marked_factor knowns f) ≡ false
is_plain-solution work knowns f named below =
    and_right (not f.primed) (bytes_eq (nth_name knowns f.known) (codes "X")) (bytes_eq-other (nth_name knowns f.known) (codes "X") (named.not_solution (suc f.known) [] (omega arith)))

-- ---- terms

one_more_product : (names : List (List ℕ)) (minus : Bool) (f g : Marked) (rest : List Marked) (products : List Product) → IsTrue (is_factor f) → IsTrue (is_factor g)
    → products_of names rest ≡ Some products
    → products_of names (plain (sign_word minus) ∷ f ∷ plain (codes "*") ∷ g ∷ rest) ≡ Some (record { minus = minus; first = side_of names f; second = side_of names g } ∷ products)
one_more_product names true f g rest products first second others = rw (first, second, others) refl
one_more_product names false f g rest products first second others = rw (first, second, others) refl

pub products_of-terms : (work : List ℕ) (knowns : List (List ℕ)) (terms : List Term) → AreOperandNames work knowns
    → All (λ f. f.known < length knowns) (flat_map (λ term. term.first ∷ term.second ∷ []) terms)
    → products_of (work ∷ knowns) (flat_map (marked_term knowns) terms) ≡ Some (map product_of_term terms)
products_of-terms work knowns [] named below = refl
products_of-terms work knowns (term ∷ terms) named below =
    let in_range = λ (f : Factor). f.known < length knowns in
    let others = flat_map (λ (t : Term). t.first ∷ t.second ∷ []) terms in
    let first = All-head in_range term.first (term.second ∷ others) below in
    let behind = All-tail in_range term.first (term.second ∷ others) below in
    let second = All-head in_range term.second others behind in
    one_more_product (work ∷ knowns) term.minus (marked_factor knowns term.first) (marked_factor knowns term.second) (flat_map (marked_term knowns) terms) (map product_of_term terms)
    (is_factor-known work knowns term.first named first) (is_factor-known work knowns term.second named second)
    (products_of-terms work knowns terms named (All-tail in_range term.second others behind))
    ∙ ap (λ (p : Product). Some (p ∷ map product_of_term terms)) (rw (side_of-factor work knowns term.first named first, side_of-factor work knowns term.second named second) refl)

-- ---- left sides

-- not the two words of `lu X` or `ldl X`
not_both : (x : Bool) → (x && false) ≡ false
not_both true = refl
not_both false = refl

abbrev equals : List Marked → List Marked
equals rest = plain (codes "=") ∷ rest

left_at-left : (names : List (List ℕ)) (t : Marked) (rest : List Marked) → IsTrue (is_factor t)
    → left_at names (t ∷ plain (codes "*") ∷ plain (codes "X") ∷ equals rest) ≡ Some (record { left = OnLeft (side_of names t); rest = equals rest })
left_at-left names t rest factor = simp not_both (rw factor refl)

left_at-right : (names : List (List ℕ)) (t : Marked) (rest : List Marked) → IsTrue (is_factor t) → is_plain (codes "X") t ≡ false
    → left_at names (plain (codes "X") ∷ plain (codes "*") ∷ t ∷ equals rest) ≡ Some (record { left = OnRight (side_of names t); rest = equals rest })
left_at-right names t rest factor other = rw (factor, other) refl

left_at-both : (names : List (List ℕ)) (t u : Marked) (minus : Bool) (rest : List Marked) → IsTrue (is_factor t) → IsTrue (is_factor u)
    → left_at names (t ∷ plain (codes "*") ∷ plain (codes "X") ∷ plain (sign_word minus) ∷ plain (codes "X") ∷ plain (codes "*") ∷ u ∷ rest)
    ≡ Some (record { left = OnBoth (side_of names t) (side_of names u) minus; rest = rest })
left_at-both names t u true rest first second = simp not_both (rw (first, second) refl)
left_at-both names t u false rest first second = simp not_both (rw (first, second) refl)

-- the left side of each form
left_at-form : (work : List ℕ) (knowns : List (List ℕ)) (form : Form) (rest : List Marked) → AreOperandNames work knowns → All (λ f. f.known < length knowns) (factors_of_form form)
    → left_at (work ∷ knowns) (marked_left knowns form ++ equals rest) ≡ Some (record { left = left_of_form form; rest = equals rest })
left_at-form work knowns Assign rest named below = refl
left_at-form work knowns (Left t) rest named below =
    left_at-left (work ∷ knowns) (marked_factor knowns t) rest (is_factor-known work knowns t named (below 0 t (omega arith)))
    ∙ ap (λ (side : Side). Some (record { left = OnLeft side; rest = equals rest })) (side_of-factor work knowns t named (below 0 t (omega arith)))
left_at-form work knowns (Right t) rest named below =
    left_at-right (work ∷ knowns) (marked_factor knowns t) rest (is_factor-known work knowns t named (below 0 t (omega arith))) (is_plain-solution work knowns t named (below 0 t (omega arith)))
    ∙ ap (λ (side : Side). Some (record { left = OnRight side; rest = equals rest })) (side_of-factor work knowns t named (below 0 t (omega arith)))
left_at-form work knowns (Sylvester t u minus) rest named below =
    left_at-both (work ∷ knowns) (marked_factor knowns t) (marked_factor knowns u) minus (equals rest)
    (is_factor-known work knowns t named (below 0 t (omega arith))) (is_factor-known work knowns u named (below 1 t (omega arith)))
    ∙ ap (λ (side : Side). Some (record { left = OnBoth side (side_of (work ∷ knowns) (marked_factor knowns u)) minus; rest = equals rest })) (side_of-factor work knowns t named (below 0 t (omega arith)))
    ∙ ap (λ (side : Side). Some (record { left = OnBoth (side_of_factor t) side minus; rest = equals rest })) (side_of-factor work knowns u named (below 1 t (omega arith)))
left_at-form work knowns Lu rest named below = refl
left_at-form work knowns Ldl rest named below = refl

-- ---- the whole equation

-- the right side begins with the work operand
with_right-work : (work : List ℕ) (knowns : List (List ℕ)) (front : LeftFront) (rest : List Marked) (products : List Product) → IsTrue (is_name work)
    → front.rest ≡ equals (plain work ∷ rest) → products_of (work ∷ knowns) rest ≡ Some products
    → with_right (work ∷ knowns) (Some front) ≡ Some (record { left = front.left; first = 0; products = products })
with_right-work work knowns front rest products named behind others = rw (behind, named, others, bytes_eq-same work) refl

known_factors : (work : List ℕ) (knowns : List (List ℕ)) (fs : List Factor) → AreOperandNames work knowns → All (λ f. f.known < length knowns) fs
    → All (λ f. IsTrue (is_name (nth_name knowns f.known))) fs
known_factors work knowns fs named below k d in_range = is_factor-known work knowns (get_or fs k d) named (below k d in_range)

-- the marks of an equation's words
marked-equation : (work : List ℕ) (knowns : List (List ℕ)) (form : Form) (terms : List Term) → AreOperandNames work knowns
    → All (λ f. f.known < length knowns) (factors_of_form form) → All (λ f. f.known < length knowns) (flat_map (λ term. term.first ∷ term.second ∷ []) terms)
    → marked (left_words knowns form ++ codes "=" ∷ work ∷ flat_map (term_words knowns) terms) ≡ marked_left knowns form ++ equals (plain work ∷ flat_map (marked_term knowns) terms)
marked-equation work knowns form terms named left right =
    let words = flat_map (term_words knowns) terms in
    let other : no_prime (work ∷ words) ≡ true = no_prime-name work words (named.names 0 [] (omega arith)) in
    marked-left knowns form (codes "=" ∷ work ∷ words) (known_factors work knowns (factors_of_form form) named left) refl
    ∙ ap (λ (ms : List Marked). marked_left knowns form ++ ms) (marked-plain (codes "=") (work ∷ words) other
    ∙ ap equals (marked-plain work words (no_prime-terms knowns terms)
    ∙ ap (λ (ms : List Marked). plain work ∷ ms) (marked-terms knowns terms (known_factors work knowns (flat_map (λ term. term.first ∷ term.second ∷ []) terms) named right))))

-- an operation's equation is read as it
pub equation_of-words : (op : Operation) → AreOperandNames op.work.name (known_names op) → All (λ f. f.known < length (known_names op)) (factors_of_form op.form)
    → All (λ f. f.known < length (known_names op)) (flat_map (λ term. term.first ∷ term.second ∷ []) op.terms)
    → equation_of (op.work.name ∷ known_names op) (equation_words op) ≡ Some (equation_of_operation op)
unfolding equation_of
equation_of-words op named left right =
    let rest = flat_map (marked_term (known_names op)) op.terms in
    ap (λ (ms : List Marked). with_right (op.work.name ∷ known_names op) (left_at (op.work.name ∷ known_names op) ms)) (marked-equation op.work.name (known_names op) op.form op.terms named left right)
    ∙ ap (with_right (op.work.name ∷ known_names op)) (left_at-form op.work.name (known_names op) op.form (plain op.work.name ∷ rest) named left)
    ∙ with_right-work op.work.name (known_names op) (record { left = left_of_form op.form; rest = equals (plain op.work.name ∷ rest) }) rest (map product_of_term op.terms)
    (named.names 0 [] (omega arith)) refl (products_of-terms op.work.name (known_names op) op.terms named right)
