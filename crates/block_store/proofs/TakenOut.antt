-- Slots that are emptied one after another, and the list of what they had. Cited where a closed board's blocks are taken.
use Rattle.std.proofs.Common.{◌≡◌, ℕ, zero, suc, ◌+◌, ◌<◌, ◌≤◌, Bool, true, false, List, [], ◌∷◌, ◌++◌, inl, inr, length, get_or, set, take, get_or-set_same, get_or-set_other, sym, ap, ◌∙◌, subst, arith}
use Rattle.std.proofs.lemmas.Bool.{cases_eq}
use mathlib.Core.Option.{some, some-injective, some-ne-none}
use lib.ListN.{get_elem?}

-- the one at place x, whose marks say which are left
module _ (filled : List Bool) (x : ℕ) where
  pub emptied : x < length filled → ((k : ℕ) → k < x → get_or filled k false ≡ false) → (k : ℕ) → k < x + 1 → get_or (set filled x false) k false ≡ false
  emptied within before k low = elim (cases_eq k x) [
    | inl here ↦ subst (λ (i : ℕ). get_or (set filled x false) i false ≡ false) (sym here) (get_or-set_same filled x false false within)
    | inr apart ↦ get_or-set_other filled x k false false (λ e. apart (omega (arith, e))) ∙ before k (omega (arith, low, apart))
  ]

  pub still-filled : (len : ℕ) → ((k : ℕ) → x ≤ k → k < len → get_or filled k false ≡ true) → (k : ℕ) → x + 1 ≤ k → k < len → get_or (set filled x false) k false ≡ true
  still-filled len before k high low = get_or-set_other filled x k false false (λ e. omega (arith, e, high)) ∙ before k (omega (arith, high)) low

-- one item more of a list
pub take-more : {A : Type 0} (l : List A) (i : ℕ) (a : A) → get_elem? l i ≡ some a → take (suc i) l ≡ take i l ++ a ∷ []
take-more [] i a e = absurd (some-ne-none a (sym e))
take-more (x ∷ l) zero a e = ap (λ y. y ∷ []) (some-injective x a e)
take-more (x ∷ l) (suc i) a e = ap (λ ys. x ∷ ys) (take-more l i a e)
