-- The equation of a valid operation passes the tests of its line. Cited by the law that an operation's lines are read as the
-- operation.
use Rattle.std.proofs.Common.{◌≡◌, ℕ, zero, suc, ◌+◌, ◌<◌, ◌≤◌, Bool, true, false, not, ◌||◌, ◌==◌, nat_lt, List, [], ◌∷◌, length, get_or, map, Ok, refl, sym, ap, ◌∙◌, arith, eq-eqb}
use Rattle.std.specs.Prelude.{All, Contains}
use Rattle.std.specs.List.{flat_map, list_all}
use Rattle.std.proofs.lemmas.Bool.{lt-ltb, le-ltb, ne_eqb, and_from, or_right, and_right}
use Rattle.std.proofs.lemmas.List.{length-map, map-append, get_or-map}
use Rattle.std.proofs.lemmas.List.Folds.{list_all_at, list_all-map}
use Rattle.std.proofs.lemmas.List.Sums.{list_all-from_AllPass}
use Rattle.text_scan.proofs.FaultTests.{passes_by}
use Rattle.operation_spec.specs.declared.equation.Side.{Side}
use Rattle.operation_spec.specs.declared.operation.Factor.{Factor}
use Rattle.operation_spec.specs.declared.operation.Form.{Form}
use Rattle.operation_spec.specs.declared.operation.Form.TheVariants.{Assign, Left, Right, Sylvester, Lu, Ldl}
use Rattle.operation_spec.specs.declared.operation.Operand.{Operand}
use Rattle.operation_spec.specs.declared.operation.Operation.{Operation}
use Rattle.operation_spec.specs.declared.operation.Term.{Term}
use Rattle.operation_spec.specs.Equations.{sides_of, sides_of_left, meets_form, uses_operand, has_dim, side_of_factor, left_of_form, product_of_term, equation_of_operation}
use Rattle.operation_spec.specs.OperationFaults.{has_unknown_side, is_malformed, all_below, sides_at}
use Rattle.operation_spec.specs.ValidOperations.{IsValid, operands_of, factors_of_form, factors_of, term_limit}

-- ---- the sides of an operation's equation

sides_of_left-form : (form : Form) → sides_of_left (left_of_form form) ≡ map side_of_factor (factors_of_form form)
sides_of_left-form Assign = refl
sides_of_left-form (Left t) = refl
sides_of_left-form (Right t) = refl
sides_of_left-form (Sylvester t u minus) = refl
sides_of_left-form Lu = refl
sides_of_left-form Ldl = refl

sides_of_terms : (terms : List Term) → flat_map (λ p. p.first ∷ p.second ∷ []) (map product_of_term terms) ≡ map side_of_factor (flat_map (λ term. term.first ∷ term.second ∷ []) terms)
sides_of_terms [] = refl
sides_of_terms (term ∷ terms) = ap (λ (sides : List Side). side_of_factor term.first ∷ side_of_factor term.second ∷ sides) (sides_of_terms terms)

-- they are its factors
pub sides_of-operation : (op : Operation) → sides_of (equation_of_operation op) ≡ map side_of_factor (factors_of op)
sides_of-operation op =
    let terms = flat_map (λ (term : Term). term.first ∷ term.second ∷ []) op.terms in
    rw (sides_of_left-form op.form, sides_of_terms op.terms) (sym (map-append side_of_factor (factors_of_form op.form) terms))

-- a test of all sides, where it holds of each factor's
sides_pass : (op : Operation) (test : Side → Bool) → All (λ f. test (side_of_factor f) ≡ true) (factors_of op) → list_all test (sides_of (equation_of_operation op)) ≡ true
sides_pass op test passes =
    ap (list_all test) (sides_of-operation op) ∙ list_all-map test side_of_factor (factors_of op) ∙ list_all-from_AllPass (λ f. test (side_of_factor f)) (factors_of op) passes

-- and where it doesn't hold of one
sides_fail : (op : Operation) (test : Side → Bool) (i : ℕ) (d : Factor) → i < length (factors_of op) → test (side_of_factor (get_or (factors_of op) i d)) ≡ false
    → list_all test (sides_of (equation_of_operation op)) ≡ false
sides_fail op test i d below fails =
    ap (list_all test) (sides_of-operation op) ∙ list_all-map test side_of_factor (factors_of op) ∙ list_all_at (λ f. test (side_of_factor f)) (factors_of op) i d below fails

-- ---- operands that it uses

pub has_unknown_side-none : (op : Operation) → All (λ f. f.known < length op.knowns) (factors_of op) → has_unknown_side op.work op.knowns (equation_of_operation op) ≡ false
has_unknown_side-none op below =
    let count = length (op.work ∷ op.knowns) in
    let known : list_all (λ side. nat_lt side.operand count) (sides_of (equation_of_operation op)) ≡ true
    = sides_pass op (λ side. nat_lt side.operand count) (λ i d lt. let here = below i d lt in lt-ltb ((get_or (factors_of op) i d).known + 1) count (omega arith)) in
    ap not (and_from (nat_lt 0 count) (list_all (λ side. nat_lt side.operand count) (sides_of (equation_of_operation op))) (lt-ltb 0 count (omega arith)) known)

-- the work operand is no factor
pub uses_operand-work : (op : Operation) → uses_operand (equation_of_operation op) 0 ≡ false
uses_operand-work op = ap not (sides_pass op (λ side. not (side.operand == 0)) (λ i d lt. ap not (ne_eqb ((get_or (factors_of op) i d).known + 1) 0 (λ none. omega arith))))

-- each known operand is one
pub uses_operand-known : (op : Operation) (k : ℕ) → Contains (map (λ f. f.known) (factors_of op)) k → uses_operand (equation_of_operation op) (suc k) ≡ true
uses_operand-known op k used =
    let d : Factor = record { known = k; primed = false } in
    let below : used.0 < length (factors_of op) = omega (arith, used.1, length-map (factors_of op) (λ (f : Factor). f.known)) in
    let here : (get_or (factors_of op) used.0 d).known ≡ k = sym (get_or-map (λ (f : Factor). f.known) (factors_of op) used.0 d k below) ∙ used.2 in
    ap not (sides_fail op (λ side. not (side.operand == suc k)) used.0 d below (ap not (eq-eqb ((get_or (factors_of op) used.0 d).known + 1) (suc k) (omega arith))))

-- ---- dimensions that it uses

abbrev dims_of : List Operand → List ℕ
dims_of os = flat_map (λ o. o.rows ∷ o.cols ∷ []) os

abbrev lacks_dim : ℕ → Operand → Bool
lacks_dim d o = not (o.rows == d || o.cols == d)

dim_found : (os : List Operand) (d k : ℕ) → k < length (dims_of os) → get_or (dims_of os) k d ≡ d → list_all (lacks_dim d) os ≡ false
dim_found [] d k below here = absurd (omega arith)
dim_found (o ∷ os) d zero below here = rw (eq-eqb o.rows d here) refl
dim_found (o ∷ os) d (suc zero) below here = rw (eq-eqb o.cols d here, or_right (o.rows == d) true refl) refl
dim_found (o ∷ os) d (suc (suc k)) below here = and_right (lacks_dim d o) (list_all (lacks_dim d) os) (dim_found os d k (omega arith) here)

pub has_dim-used : (op : Operation) (d : ℕ) → Contains (dims_of (operands_of op)) d → has_dim op.work op.knowns d ≡ true
has_dim-used op d used = ap not (dim_found (operands_of op) d used.0 used.1 used.2)

-- ---- all tests

all_below-true : (n : ℕ) (test : ℕ → Bool) → ((k : ℕ) → k < n → test k ≡ true) → all_below n test ≡ true
all_below-true zero test holds = refl
all_below-true (suc n) test holds = and_from (all_below n test) (test n) (all_below-true n test (λ k below. holds k (omega arith))) (holds n (omega arith))

is_malformed-valid : (op : Operation) → IsValid op → is_malformed op.dims op.work op.knowns (equation_of_operation op) ≡ false
is_malformed-valid op valid =
    let e = equation_of_operation op in
    let knowns : all_below (length op.knowns) (λ k. uses_operand e (suc k)) ≡ true = all_below-true (length op.knowns) (λ k. uses_operand e (suc k)) (λ k below. uses_operand-known op k (valid.knowns_used k below)) in
    let dims : all_below (length op.dims) (has_dim op.work op.knowns) ≡ true = all_below-true (length op.dims) (has_dim op.work op.knowns) (λ d below. has_dim-used op d (valid.dims_used d below)) in
    none_of_four (uses_operand e 0) (meets_form op.work op.knowns e.left) (all_below (length op.knowns) (λ k. uses_operand e (suc k))) (all_below (length op.dims) (has_dim op.work op.knowns))
    (uses_operand-work op) valid.form knowns dims
  where
    none_of_four : (a b c d : Bool) → a ≡ false → b ≡ true → c ≡ true → d ≡ true → (a || not b || not c || not d) ≡ false
    none_of_four a b c d not_a is_b is_c is_d = rw (not_a, is_b, is_c, is_d) refl

pub sides_at-valid : (op : Operation) (line : ℕ) → IsValid op → sides_at op.dims op.work op.knowns line (equation_of_operation op) ≡ Ok (equation_of_operation op)
unfolding sides_at
sides_at-valid op line valid =
    let few : length (map product_of_term op.terms) ≤ term_limit = omega (arith, length-map op.terms product_of_term, valid.few_terms) in
    passes_by _ (has_unknown_side-none op valid.factors)
    (passes_by _ (le-ltb term_limit (length (map product_of_term op.terms)) few)
    (passes_by _ (ap not valid.sizes)
    (passes_by _ (is_malformed-valid op valid) refl)))
