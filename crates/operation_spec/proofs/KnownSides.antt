-- Sides of an equation as factors of an operation, and back. Cited by the laws of operation texts.
use Rattle.std.proofs.Common.{◌≡◌, ◌≢◌, inl, inr, ℕ, suc, ◌+◌, ◌-◌, ◌<◌, false, not, ◌||◌, ◌==◌, nat_lt, List, [], ◌∷◌, ◌++◌, length, map, get_or, All, Contains, flat_map, refl, sym, ap, arith, ltb-true, eqb-true}
use Rattle.std.specs.List.{list_all}
use Rattle.std.proofs.lemmas.Bool.{and_parts, and_cases, or_cases, not-true, not-false, eqb-false}
use Rattle.std.proofs.lemmas.List.Elements.{All-head, All-tail, All-weaker, All-map}
use Rattle.std.proofs.lemmas.List.{map-append}
use Rattle.std.proofs.lemmas.List.Sums.{AllPass-from_list_all}
use Rattle.operation_spec.specs.declared.equation.Side.{Side}
use Rattle.operation_spec.specs.declared.equation.Product.{Product}
use Rattle.operation_spec.specs.declared.equation.Equation.{Equation}
use Rattle.operation_spec.specs.declared.equation.LeftSide.{LeftSide}
use Rattle.operation_spec.specs.declared.equation.LeftSide.TheVariants.{Solution, OnLeft, OnRight, OnBoth, LuFactors, LdlFactors}
use Rattle.operation_spec.specs.declared.operation.Operand.{Operand}
use Rattle.operation_spec.specs.declared.operation.Factor.{Factor}
use Rattle.operation_spec.specs.Equations.{sides_of_left, sides_of, uses_operand, side_of_factor, left_of_form, product_of_term}
use Rattle.operation_spec.specs.OperationFaults.{factor_of, form_of, term_of, has_unknown_side}
use Rattle.operation_spec.specs.ValidOperations.{factors_of_form}
use Rattle.operation_spec.proofs.ListParts.{All-front, All-behind}

-- ---- sides that are known operands

-- a side that is one of so many operands, and not the first, which is the work operand
pub record IsKnown (count : ℕ) (side : Side) : Type 0 where
  pub some : side.operand ≢ 0
  pub below : side.operand < count

abbrev pub AreKnownSides : ℕ → List Side → Type 0
AreKnownSides count sides = All (IsKnown count) sides

pub known_behind : (count : ℕ) (side : Side) (sides : List Side) → AreKnownSides count (side ∷ sides) → AreKnownSides count sides
known_behind count side sides known = All-tail (IsKnown count) side sides known

abbrev pub sides_of_products : List Product → List Side
sides_of_products products = flat_map (λ p. p.first ∷ p.second ∷ []) products

-- ---- what the tests tell

-- sides that are known operands, where none is unknown and none is the work operand
pub sides_are_known : (work : Operand) (knowns : List Operand) (e : Equation) → has_unknown_side work knowns e ≡ false → uses_operand e 0 ≡ false
    → AreKnownSides (length (work ∷ knowns)) (sides_of e)
sides_are_known work knowns e known other i d below =
    let count = length (work ∷ knowns) in
    let all_known = (and_parts (nat_lt e.first count) (list_all (λ side. nat_lt side.operand count) (sides_of e)) (not-false _ known)).1 in
    let all_other = not-false (list_all (λ side. not (side.operand == 0)) (sides_of e)) other in
    let side = get_or (sides_of e) i d in
    record {
      some = eqb-false side.operand 0 (not-true _ (AllPass-from_list_all (λ side. not (side.operand == 0)) (sides_of e) all_other i d below));
      below = ltb-true side.operand count (AllPass-from_list_all (λ side. nat_lt side.operand count) (sides_of e) all_known i d below);
    }

-- a known operand that is used is the operand of a factor
pub used_factor : (sides : List Side) (k : ℕ) → list_all (λ side. not (side.operand == suc k)) sides ≡ false → Contains (map (λ f. f.known) (map factor_of sides)) k
used_factor [] k e = absurd cc
used_factor (side ∷ sides) k e = elim (and_cases (not (side.operand == suc k)) (list_all (λ side. not (side.operand == suc k)) sides) e) [
  | inl here ↦ (let same : side.operand ≡ suc k = eqb-true side.operand (suc k) (not-false _ here) in (0, omega arith, omega arith))
  | inr later ↦ (let r = used_factor sides k later in (suc r.0, omega (arith, r.1), r.2))
]

-- a dimension that an operand has
pub used_dim : (operands : List Operand) (d : ℕ) → list_all (λ o. not (o.rows == d || o.cols == d)) operands ≡ false → Contains (flat_map (λ o. o.rows ∷ o.cols ∷ []) operands) d
used_dim [] d e = absurd cc
used_dim (o ∷ operands) d e = elim (and_cases (not (o.rows == d || o.cols == d)) (list_all (λ o. not (o.rows == d || o.cols == d)) operands) e) [
  | inl here ↦ elim (or_cases (o.rows == d) (o.cols == d) (not-false _ here)) [
    | inl rows ↦ (0, omega arith, eqb-true o.rows d rows)
    | inr cols ↦ (1, omega arith, eqb-true o.cols d cols)
  ]
  | inr later ↦ (let r = used_dim operands d later in (suc (suc r.0), omega (arith, r.1), r.2))
]

-- ---- factors, and sides again

side_again : (side : Side) → side.operand ≢ 0 → side_of_factor (factor_of side) ≡ side
side_again side some = let same : side.operand - 1 + 1 ≡ side.operand = omega arith in ap (λ n. record { operand = n; primed = side.primed }) same

module _ (count : ℕ) where
  one_again : (side : Side) (others : List Side) → AreKnownSides count (side ∷ others) → side_of_factor (factor_of side) ≡ side
  one_again side others known = let first = All-head (IsKnown count) side others known in side_again side first.some

  pub left_again : (left : LeftSide) → AreKnownSides count (sides_of_left left) → left_of_form (form_of left) ≡ left
  left_again Solution known = refl
  left_again (OnLeft t) known = ap OnLeft (one_again t [] known)
  left_again (OnRight t) known = ap OnRight (one_again t [] known)
  left_again (OnBoth t u minus) known =
      let t_same = one_again t (u ∷ []) known in
      let u_same = one_again u [] (known_behind count t (u ∷ []) known) in
      cc
  left_again LuFactors known = refl
  left_again LdlFactors known = refl

  pub products_again : (products : List Product) → AreKnownSides count (sides_of_products products) → map product_of_term (map term_of products) ≡ products
  products_again [] known = refl
  products_again (p ∷ products) known =
      let behind_first = known_behind count p.first (p.second ∷ sides_of_products products) known in
      let first_same = one_again p.first (p.second ∷ sides_of_products products) known in
      let second_same = one_again p.second (sides_of_products products) behind_first in
      let others = products_again products (known_behind count p.second (sides_of_products products) behind_first) in
      λ i. record { minus = p.minus; first = first_same i; second = second_same i } ∷ others i

  -- the equation again, from what it says
  pub equation_again : (e : Equation) → e.first ≡ 0 → AreKnownSides count (sides_of e)
      → record { left = left_of_form (form_of e.left); first = 0; products = map product_of_term (map term_of e.products) } ≡ e
  equation_again e first known =
      let left = left_again e.left (All-front (IsKnown count) (sides_of_left e.left) (sides_of_products e.products) known) in
      let products = products_again e.products (All-behind (IsKnown count) (sides_of_left e.left) (sides_of_products e.products) known) in
      λ i. record { left = left i; first = sym first i; products = products i }

-- the factors are the sides
form_factors : (left : LeftSide) → factors_of_form (form_of left) ≡ map factor_of (sides_of_left left)
form_factors Solution = refl
form_factors (OnLeft t) = refl
form_factors (OnRight t) = refl
form_factors (OnBoth t u minus) = refl
form_factors LuFactors = refl
form_factors LdlFactors = refl

term_factors : (products : List Product) → flat_map (λ term. term.first ∷ term.second ∷ []) (map term_of products) ≡ map factor_of (sides_of_products products)
term_factors [] = refl
term_factors (p ∷ products) = ap (λ (l : List Factor). factor_of p.first ∷ factor_of p.second ∷ l) (term_factors products)

pub factors_are : (e : Equation) → factors_of_form (form_of e.left) ++ flat_map (λ term. term.first ∷ term.second ∷ []) (map term_of e.products) ≡ map factor_of (sides_of e)
factors_are e = rw (form_factors e.left, term_factors e.products) (sym (map-append factor_of (sides_of_left e.left) (sides_of_products e.products)))

-- each factor is a known operand
pub factors_below : (n : ℕ) (sides : List Side) → AreKnownSides (suc n) sides → All (λ f. f.known < n) (map factor_of sides)
factors_below n sides known = All-map (λ f. f.known < n) factor_of sides (All-weaker (IsKnown (suc n)) (λ side. side.operand - 1 < n) (λ side is. is_below side.operand is.some is.below) sides known)
  where
    is_below : (k : ℕ) → k ≢ 0 → k < suc n → k - 1 < n
    is_below k some below = omega arith
