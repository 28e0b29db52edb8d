-- Steps of reading the words of an equation.
use Rattle.std.proofs.Common.{◌≡◌, ℕ, ◌<◌, Bool, true, false, cond, ◌&&◌, List, [], ◌∷◌, ◌++◌, length, drop, codes, Option, Some, None, refl, ap, ◌∙◌, append_assoc, arith}
use Rattle.operation_spec.specs.declared.equation.Product.{Product}
use Rattle.operation_spec.specs.declared.marked_words.MarkedWord.{MarkedWord}
use Rattle.operation_spec.specs.MarkedWords.{marked_words, product_said, signed_at}
use Rattle.operation_spec.specs.Equations.{Marked, is_plain, is_plus_or_minus, is_factor, left_at, products_of}

-- products in front of those that words say
abbrev pub with_front : List Product → Option (List Product) → Option (List Product)
with_front front None = None
with_front front (Some products) = Some (front ++ products)

-- what was said in front, and the products behind it
products_of-cons : (names : List (List ℕ)) (front : List Product) (sign f times g : Marked) (rest : List Marked) (p : Product) (read : Option (List Product)) (test : Bool) → products_of names rest ≡ read
    → (is_plus_or_minus sign && is_factor f && is_plain (codes "*") times && is_factor g) ≡ test → Some p ≡ cond test (Some (product_said names sign f g)) None
    → with_front (front ++ p ∷ []) (products_of names rest) ≡ with_front front (products_of names (sign ∷ f ∷ times ∷ g ∷ rest))
products_of-cons names front sign f times g rest p read false e fails said = absurd cc
products_of-cons names front sign f times g rest p None true e holds said = rw (holds, e) refl
products_of-cons names front sign f times g rest p (Some products) true e holds said =
    let same : p ≡ product_said names sign f g = cc in
    rw (holds, e) (ap (λ (ps : List Product). Some ps) (append_assoc front (p ∷ []) products) ∙ ap (λ (q : Product). Some (front ++ q ∷ products)) same)

-- a product in front of those that words say
pub signed_more : (names : List (List ℕ)) (front : List Product) (words : List Marked) (p : Product) → Some p ≡ signed_at names words → with_front (front ++ p ∷ []) (products_of names (drop 4 words)) ≡ with_front front (products_of names words)
signed_more names front (sign ∷ f ∷ times ∷ g ∷ rest) p e = products_of-cons names front sign f times g rest p (products_of names rest) _ refl refl e
signed_more names front _ p e = absurd cc

-- words that don't begin so are no products
pub no_signed : (names : List (List ℕ)) (words : List Marked) → 0 < length words → None ≡ signed_at names words → products_of names words ≡ None
no_signed names [] some e = absurd (omega arith)
no_signed names (sign ∷ f ∷ times ∷ g ∷ rest) some e = by_test (is_plus_or_minus sign && is_factor f && is_plain (codes "*") times && is_factor g) _ _ e
  where
    by_test : (test : Bool) (p : Product) (read : Option (List Product)) → None ≡ cond test (Some p) None → cond test read None ≡ None
    by_test true p read e = absurd cc
    by_test false p read e = refl
no_signed names _ some e = refl

-- ---- left sides

-- a left side has two words at least
pub no_left_side : (names : List (List ℕ)) (words : List MarkedWord) → length words < 2 → None ≡ left_at names (marked_words words)
no_left_side names [] short = refl
no_left_side names (a ∷ []) short = refl
no_left_side names (a ∷ b ∷ rest) short = absurd (omega arith)
