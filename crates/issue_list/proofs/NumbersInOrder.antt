-- The numbers of a range: which there are, and that they ascend. Cited by the lemmas on statements and on iterations.
use Rattle.std.proofs.Common.{◌≡◌, ℕ, zero, suc, ◌+◌, ◌<◌, ◌≤◌, List, [], ◌∷◌, ◌++◌, map, All, Contains, sym, ap, ◌∙◌, arith}
use Rattle.std.specs.Prelude.{AllPairs}
use Rattle.std.specs.List.{flat_map, range_with_len}
use Rattle.std.proofs.lemmas.List.{flat_map_more, map-append}
use Rattle.std.proofs.lemmas.List.FromFn.{get_or-range_with_len, length-range_with_len}

pub numbers-within : (n : ℕ) → All (λ s. (1 ≤ s) × (s ≤ n)) (range_with_len 1 n)
numbers-within n k d below =
    let inside : k < n = omega (arith, length-range_with_len 1 n) in
    let e = get_or-range_with_len 1 n k d inside in (omega (arith, e), omega (arith, e))

pub numbers-sorted : (a n : ℕ) → AllPairs (λ (s t : ℕ). s < t) (range_with_len a n)
numbers-sorted a n i j d before below =
    let last : j < n = omega (arith, length-range_with_len a n) in
    let first : i < n = omega arith in
    omega (arith, get_or-range_with_len a n i d first, get_or-range_with_len a n j d last)

pub number-found : (a n t : ℕ) → t < n → Contains (range_with_len a n) (a + t)
number-found a n t below = (t, omega (arith, length-range_with_len a n), get_or-range_with_len a n t (a + t) below)

-- one number more
pub range-more : (a n last : ℕ) → a + n ≡ last → range_with_len a (n + 1) ≡ range_with_len a n ++ last ∷ []
range-more a zero last e = let same : a ≡ last = omega (arith, e) in ap (λ k. k ∷ []) same
range-more a (suc n) last e =
    let next : suc n + 1 ≡ suc (n + 1) = omega arith in
    let moved : (a + 1) + n ≡ last = omega (arith, e) in
    ap (range_with_len a) next ∙ ap (λ ns. a ∷ ns) (range-more (a + 1) n last moved)

-- and what a function makes of it
pub map_range_more : {X : Type 0} (f : ℕ → X) (n : ℕ) → map f (range_with_len 0 (n + 1)) ≡ map f (range_with_len 0 n) ++ f n ∷ []
map_range_more f n = ap (map f) (range-more 0 n n (omega arith)) ∙ map-append f (range_with_len 0 n) (n ∷ [])

-- lists that a function makes, one behind the other
pub flat_map_range_more : {X : Type 0} (f : ℕ → List X) {so_far more : List X} (n : ℕ) → so_far ≡ flat_map f (range_with_len 0 n) → more ≡ so_far ++ f n
    → more ≡ flat_map f (range_with_len 0 (n + 1))
flat_map_range_more {X} f n listed e =
    e ∙ ap (λ (xs : List X). xs ++ f n) listed ∙ flat_map_more f [] (range_with_len 0 n) n ∙ ap (flat_map f) (sym (range-more 0 n n (omega arith)))
