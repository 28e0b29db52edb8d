-- The words of an operation's equation with their marks: each factor is one marked word. Cited by what reads an equation.
use Rattle.std.proofs.Common.{◌≡◌, ◌≢◌, ℕ, arith, Bool, true, false, not, cond, List, [], ◌∷◌, ◌++◌, codes, refl, sym, ap, ◌∙◌, append_assoc}
use Rattle.std.specs.Prelude.{All, IsTrue}
use Rattle.std.specs.List.{flat_map}
use Rattle.std.proofs.lemmas.Bool.{true≢false}
use Rattle.std.proofs.lemmas.List.Elements.{All-head, All-tail}
use Rattle.text_scan.specs.Words.{is_name}
use Rattle.operation_spec.specs.declared.operation.Factor.{Factor}
use Rattle.operation_spec.specs.declared.operation.Form.{Form}
use Rattle.operation_spec.specs.declared.operation.Form.TheVariants.{Assign, Left, Right, Sylvester, Lu, Ldl}
use Rattle.operation_spec.specs.declared.operation.Term.{Term}
use Rattle.operation_spec.specs.Equations.{Marked, is_prime, marked}
use Rattle.operation_spec.specs.OperationLines.{nth_name, factor_words, sign_word, term_words, left_words}
use Rattle.operation_spec.specs.ValidOperations.{factors_of_form}
use Rattle.operation_spec.proofs.NamesApart.{bytes_eq-other}

-- ---- words and marks

-- a word without '
abbrev pub plain : List ℕ → Marked
plain w = record { word = w; primed = false }

abbrev pub marked_factor : List (List ℕ) → Factor → Marked
marked_factor knowns f = record { word = nth_name knowns f.known; primed = f.primed }

abbrev pub marked_term : List (List ℕ) → Term → List Marked
marked_term knowns term = plain (sign_word term.minus) ∷ marked_factor knowns term.first ∷ plain (codes "*") ∷ marked_factor knowns term.second ∷ []

-- no ' stands at the front
abbrev pub no_prime : List (List ℕ) → Bool
no_prime [] = true
no_prime (w ∷ words) = not (is_prime w)

-- a word that isn't followed by '
pub marked-plain : (w : List ℕ) (words : List (List ℕ)) → no_prime words ≡ true → marked (w ∷ words) ≡ plain w ∷ marked words
marked-plain w [] none = refl
marked-plain w (v ∷ words) none = by_test (is_prime v) none
  where
    by_test : (test : Bool) → not test ≡ true
        → cond test (record { word = w; primed = true } ∷ marked words) (plain w ∷ marked (v ∷ words)) ≡ plain w ∷ marked (v ∷ words)
    by_test true none = absurd cc
    by_test false none = refl

-- a factor, before words that don't begin with '
pub marked-factor : (knowns : List (List ℕ)) (f : Factor) (words : List (List ℕ)) → no_prime words ≡ true
    → marked (factor_words knowns f ++ words) ≡ marked_factor knowns f ∷ marked words
marked-factor knowns f words none = by_mark f.primed
  where
    by_mark : (primed : Bool) → marked ((nth_name knowns f.known ∷ cond primed (codes "'" ∷ []) []) ++ words) ≡ record { word = nth_name knowns f.known; primed = primed } ∷ marked words
    by_mark true = refl
    by_mark false = marked-plain (nth_name knowns f.known) words none

-- ---- names are no signs

-- a name isn't a word that is none
pub name_differs : (w text : List ℕ) → IsTrue (is_name w) → is_name text ≡ false → w ≢ text
name_differs w text named none same = true≢false (sym named ∙ ap is_name same ∙ none)

pub no_prime-name : (w : List ℕ) (words : List (List ℕ)) → IsTrue (is_name w) → no_prime (w ∷ words) ≡ true
no_prime-name w words named = ap not (bytes_eq-other w (codes "'") (name_differs w (codes "'") named refl))

pub no_prime-factor : (knowns : List (List ℕ)) (f : Factor) (words : List (List ℕ)) → IsTrue (is_name (nth_name knowns f.known)) → no_prime (factor_words knowns f ++ words) ≡ true
no_prime-factor knowns f words named = no_prime-name (nth_name knowns f.known) (cond f.primed (codes "'" ∷ []) [] ++ words) named

pub no_prime-sign : (minus : Bool) (words : List (List ℕ)) → no_prime (sign_word minus ∷ words) ≡ true
no_prime-sign true words = refl
no_prime-sign false words = refl

-- ---- terms

pub no_prime-terms : (knowns : List (List ℕ)) (terms : List Term) → no_prime (flat_map (term_words knowns) terms) ≡ true
no_prime-terms knowns [] = refl
no_prime-terms knowns (term ∷ terms) = no_prime-sign term.minus ((factor_words knowns term.first ++ codes "*" ∷ factor_words knowns term.second) ++ flat_map (term_words knowns) terms)

-- `F * G`, before words that don't begin with '
pub marked-product : (knowns : List (List ℕ)) (f g : Factor) (words : List (List ℕ)) → IsTrue (is_name (nth_name knowns g.known)) → no_prime words ≡ true
    → marked (factor_words knowns f ++ (codes "*" ∷ (factor_words knowns g ++ words))) ≡ marked_factor knowns f ∷ plain (codes "*") ∷ marked_factor knowns g ∷ marked words
marked-product knowns f g words named none =
    marked-factor knowns f (codes "*" ∷ (factor_words knowns g ++ words)) refl
    ∙ ap (λ (ms : List Marked). marked_factor knowns f ∷ ms) (marked-plain (codes "*") (factor_words knowns g ++ words) (no_prime-factor knowns g words named))
    ∙ ap (λ (ms : List Marked). marked_factor knowns f ∷ plain (codes "*") ∷ ms) (marked-factor knowns g words none)

-- a term, before words that don't begin with '
marked-term : (knowns : List (List ℕ)) (term : Term) (words : List (List ℕ)) → IsTrue (is_name (nth_name knowns term.first.known)) → IsTrue (is_name (nth_name knowns term.second.known))
    → no_prime words ≡ true → marked (term_words knowns term ++ words) ≡ marked_term knowns term ++ marked words
marked-term knowns term words first second none =
    let regrouped : term_words knowns term ++ words ≡ sign_word term.minus ∷ (factor_words knowns term.first ++ (codes "*" ∷ (factor_words knowns term.second ++ words)))
    = ap (λ (ws : List (List ℕ)). sign_word term.minus ∷ ws) (append_assoc (factor_words knowns term.first) (codes "*" ∷ factor_words knowns term.second) words) in
    ap marked regrouped
    ∙ marked-plain (sign_word term.minus) (factor_words knowns term.first ++ (codes "*" ∷ (factor_words knowns term.second ++ words)))
    (no_prime-factor knowns term.first (codes "*" ∷ (factor_words knowns term.second ++ words)) first)
    ∙ ap (λ (ms : List Marked). plain (sign_word term.minus) ∷ ms) (marked-product knowns term.first term.second words second none)

-- all terms
pub marked-terms : (knowns : List (List ℕ)) (terms : List Term) → All (λ f. IsTrue (is_name (nth_name knowns f.known))) (flat_map (λ term. term.first ∷ term.second ∷ []) terms)
    → marked (flat_map (term_words knowns) terms) ≡ flat_map (marked_term knowns) terms
marked-terms knowns [] named = refl
marked-terms knowns (term ∷ terms) named =
    let named_factor = λ (f : Factor). IsTrue (is_name (nth_name knowns f.known)) in
    let others = flat_map (λ (t : Term). t.first ∷ t.second ∷ []) terms in
    let behind = All-tail named_factor term.first (term.second ∷ others) named in
    marked-term knowns term (flat_map (term_words knowns) terms) (All-head named_factor term.first (term.second ∷ others) named) (All-head named_factor term.second others behind) (no_prime-terms knowns terms)
    ∙ ap (λ (ms : List Marked). marked_term knowns term ++ ms) (marked-terms knowns terms (All-tail named_factor term.second others behind))

-- ---- left sides

abbrev pub marked_left : List (List ℕ) → Form → List Marked
marked_left knowns Assign = plain (codes "X") ∷ []
marked_left knowns (Left t) = marked_factor knowns t ∷ plain (codes "*") ∷ plain (codes "X") ∷ []
marked_left knowns (Right t) = plain (codes "X") ∷ plain (codes "*") ∷ marked_factor knowns t ∷ []
marked_left knowns (Sylvester t u minus) = marked_factor knowns t ∷ plain (codes "*") ∷ plain (codes "X") ∷ plain (sign_word minus) ∷ plain (codes "X") ∷ plain (codes "*") ∷ marked_factor knowns u ∷ []
marked_left knowns Lu = plain (codes "lu") ∷ plain (codes "X") ∷ []
marked_left knowns Ldl = plain (codes "ldl") ∷ plain (codes "X") ∷ []

-- `+ X * U`, or with -
marked-second : (knowns : List (List ℕ)) (minus : Bool) (u : Factor) (words : List (List ℕ)) → IsTrue (is_name (nth_name knowns u.known)) → no_prime words ≡ true
    → marked (sign_word minus ∷ codes "X" ∷ codes "*" ∷ (factor_words knowns u ++ words)) ≡ plain (sign_word minus) ∷ plain (codes "X") ∷ plain (codes "*") ∷ marked_factor knowns u ∷ marked words
marked-second knowns minus u words named none =
    marked-plain (sign_word minus) (codes "X" ∷ codes "*" ∷ (factor_words knowns u ++ words)) refl
    ∙ ap (λ (ms : List Marked). plain (sign_word minus) ∷ plain (codes "X") ∷ ms) (marked-plain (codes "*") (factor_words knowns u ++ words) (no_prime-factor knowns u words named))
    ∙ ap (λ (ms : List Marked). plain (sign_word minus) ∷ plain (codes "X") ∷ plain (codes "*") ∷ ms) (marked-factor knowns u words none)

-- `T * X`, and more words
marked-first : (knowns : List (List ℕ)) (t : Factor) (words : List (List ℕ)) → no_prime words ≡ true
    → marked (factor_words knowns t ++ (codes "*" ∷ codes "X" ∷ words)) ≡ marked_factor knowns t ∷ plain (codes "*") ∷ plain (codes "X") ∷ marked words
marked-first knowns t words none =
    marked-factor knowns t (codes "*" ∷ codes "X" ∷ words) refl
    ∙ ap (λ (ms : List Marked). marked_factor knowns t ∷ plain (codes "*") ∷ ms) (marked-plain (codes "X") words none)

-- a left side, before words that don't begin with '
pub marked-left : (knowns : List (List ℕ)) (form : Form) (words : List (List ℕ)) → All (λ f. IsTrue (is_name (nth_name knowns f.known))) (factors_of_form form) → no_prime words ≡ true
    → marked (left_words knowns form ++ words) ≡ marked_left knowns form ++ marked words
marked-left knowns Assign words named none = marked-plain (codes "X") words none
marked-left knowns (Left t) words named none = ap marked (append_assoc (factor_words knowns t) (codes "*" ∷ codes "X" ∷ []) words) ∙ marked-first knowns t words none
marked-left knowns (Right t) words named none =
    ap (λ (ms : List Marked). plain (codes "X") ∷ ms) (marked-plain (codes "*") (factor_words knowns t ++ words) (no_prime-factor knowns t words (named 0 t (omega arith))))
    ∙ ap (λ (ms : List Marked). plain (codes "X") ∷ plain (codes "*") ∷ ms) (marked-factor knowns t words none)
marked-left knowns (Sylvester t u minus) words named none =
    ap marked (append_assoc (factor_words knowns t) (codes "*" ∷ codes "X" ∷ sign_word minus ∷ codes "X" ∷ codes "*" ∷ factor_words knowns u) words)
    ∙ marked-first knowns t (sign_word minus ∷ codes "X" ∷ codes "*" ∷ (factor_words knowns u ++ words)) (no_prime-sign minus (codes "X" ∷ codes "*" ∷ (factor_words knowns u ++ words)))
    ∙ ap (λ (ms : List Marked). marked_factor knowns t ∷ plain (codes "*") ∷ plain (codes "X") ∷ ms) (marked-second knowns minus u words (named 1 t (omega arith)) none)
marked-left knowns Lu words named none = ap (λ (ms : List Marked). plain (codes "lu") ∷ ms) (marked-plain (codes "X") words none)
marked-left knowns Ldl words named none = ap (λ (ms : List Marked). plain (codes "ldl") ∷ ms) (marked-plain (codes "X") words none)
