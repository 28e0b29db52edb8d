-- Lists made part by part.
use Rattle.std.proofs.Common.{◌≡◌, ℕ, ◌+◌, List, ◌++◌, refl, sym, ap, ◌∙◌, add-one, append_assoc}
use Rattle.block_expr.specs.Places.{each_below}

-- one part more
pub each_more : {X : Type 0} (f : ℕ → List X) (n : ℕ) → each_below f (n + 1) ≡ each_below f n ++ f n
each_more f n = rw (add-one n) refl

-- a list that has grown by the first parts grows by one more
pub grown_more : {X : Type 0} (f : ℕ → List X) (n : ℕ) (old found new : List X) → found ≡ old ++ each_below f n → new ≡ found ++ f n
    → new ≡ old ++ each_below f (n + 1)
grown_more f n old found new so_far next =
    next ∙ ap (λ xs. xs ++ f n) so_far ∙ append_assoc old (each_below f n) (f n) ∙ ap (λ xs. old ++ xs) (sym (each_more f n))
