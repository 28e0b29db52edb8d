-- The product of a term, looked up by the term's number.
use Rattle.std.proofs.Common.{◌≡◌, ◌≢◌, ℕ, zero, suc, ◌-◌, List, [], ◌∷◌, refl, arith}
use Rattle.std.specs.Prelude.{slice_get}
use Rattle.operation_spec.specs.declared.operation.Operation.{Operation}
use Rattle.operation_spec.specs.declared.operation.Term.{Term}
use Rattle.block_values.specs.States.{term_product, term_minus, numbered_product, numbered_minus}
use Rattle.block_expr.specs.Terms.{numbered_term, product_of_term, minus_of_term}

-- a term with a number other than 0
pub numbered_term-at : (op : Operation) (t : ℕ) → t ≢ 0 → numbered_term op t ≡ slice_get op.terms (t - 1)
numbered_term-at op zero h = absurd (h refl)
numbered_term-at op (suc t) h = let at : suc t - 1 ≡ t = omega arith in rw at refl

product-at : (terms : List Term) (t i j k : ℕ) → term_product terms t i j k ≡ product_of_term (slice_get terms t) i j k
product-at [] t i j k = refl
product-at (x ∷ xs) zero i j k = refl
product-at (x ∷ xs) (suc t) i j k = product-at xs t i j k

minus-at : (terms : List Term) (t : ℕ) → term_minus terms t ≡ minus_of_term (slice_get terms t)
minus-at [] t = refl
minus-at (x ∷ xs) zero = refl
minus-at (x ∷ xs) (suc t) = minus-at xs t

pub numbered_product_is : (op : Operation) (t i j k : ℕ) → numbered_product op t i j k ≡ product_of_term (numbered_term op t) i j k
numbered_product_is op zero i j k = refl
numbered_product_is op (suc t) i j k = product-at op.terms t i j k

pub numbered_minus_is : (op : Operation) (t : ℕ) → numbered_minus op t ≡ minus_of_term (numbered_term op t)
numbered_minus_is op zero = refl
numbered_minus_is op (suc t) = minus-at op.terms t
