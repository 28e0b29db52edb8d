-- Names that are found among others, and names that stand once. Cited by the laws of operation texts.
use Rattle.std.proofs.Common.{◌≡◌, ◌≢◌, ℕ, zero, suc, ◌-◌, ◌<◌, true, false, not, List, [], ◌∷◌, length, get_or, All, AllPairs, bytes_eq, refl, sym, arith, ltb-true, ltb-false}
use Rattle.std.proofs.lemmas.Bool.{not-true, not-false, or_parts, both_ways}
use Rattle.std.proofs.lemmas.List.Kept.{AllPairs-cons}
use Rattle.std.proofs.lemmas.List.Sums.{prefix_len_passes, prefix_len_stops}
use Rattle.std.proofs.lemmas.Slice.Eq.{bytes_eq-Decides}
use Rattle.text_scan.specs.Names.{has_twice, is_among, number_of}
use Rattle.operation_spec.specs.OperationLines.{nth_name}

-- what a test of two texts tells
pub text_is : (a b : List ℕ) → bytes_eq a b ≡ true → a ≡ b
text_is a b e = (bytes_eq-Decides a b).0 e

pub text_is_not : (a b : List ℕ) → bytes_eq a b ≡ false → a ≢ b
text_is_not a b e same = both_ways (bytes_eq a b) e ((bytes_eq-Decides a b).1 same)

-- a name that is among others stands at its number
pub nth_name-number_of : (names : List (List ℕ)) (w : List ℕ) → number_of names w < length names → nth_name names (number_of names w) ≡ w
nth_name-number_of names w found =
    text_is (nth_name names (number_of names w)) w (not-false _ (prefix_len_stops (λ name. not (bytes_eq name w)) names [] found))

pub among_below : (names : List (List ℕ)) (w : List ℕ) → is_among names w ≡ true → number_of names w < length names
among_below names w e = ltb-true (number_of names w) (length names) e

-- a name that isn't among others is none of them
pub none_is : (names : List (List ℕ)) (w : List ℕ) → is_among names w ≡ false → All (λ name. name ≢ w) names
none_is names w e k d below =
    let before : k < number_of names w = omega (arith, ltb-false (number_of names w) (length names) e) in
    text_is_not (get_or names k d) w (not-true _ (prefix_len_passes (λ name. not (bytes_eq name w)) names k d before))

-- names of which none stands twice
pub once_from_has_twice : (names : List (List ℕ)) → has_twice names ≡ false → AllPairs (λ a b. a ≢ b) names
once_from_has_twice [] e = λ i j d before below. absurd (omega arith)
once_from_has_twice (name ∷ names) e =
    let parts = or_parts (is_among names name) (has_twice names) e in
    AllPairs-cons (λ a b. a ≢ b) name names (λ k d below same. none_is names name parts.0 k d below (sym same)) (once_from_has_twice names parts.1)

-- the name of a known operand, whose number is one more among all operands
pub nth_name-behind : (first : List ℕ) (names : List (List ℕ)) (n : ℕ) → n ≢ 0 → nth_name names (n - 1) ≡ nth_name (first ∷ names) n
nth_name-behind first names zero some = absurd (some refl)
nth_name-behind first names (suc n) some = let same : suc n - 1 ≡ n = omega arith in rw same refl
