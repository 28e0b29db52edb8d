-- The words of an equation, each with the ' behind it. Cited by the laws of operation texts.
use Rattle.std.proofs.Common.{◌≡◌, ◌≢◌, ℕ, ◌<◌, Bool, true, false, not, if◌then◌else◌, List, [], ◌∷◌, length, codes, bytes_eq, flat_map, refl, ap, ◌∙◌, inl, inr}
use Rattle.std.proofs.lemmas.Bool.{and_parts, or_cases, not-true}
use Rattle.text_scan.specs.Names.{number_of}
use Rattle.operation_spec.specs.Equations.{Marked, marked, is_prime, is_plain, is_plus_or_minus, side_of}
use Rattle.operation_spec.specs.OperationFaults.{factor_of}
use Rattle.operation_spec.specs.OperationLines.{factor_words, sign_word}
use Rattle.operation_spec.proofs.FoundNames.{text_is, nth_name-number_of, nth_name-behind}

-- the words that a marked word was
abbrev pub unmark : Marked → List (List ℕ)
unmark m = m.word ∷ (if m.primed then codes "'" ∷ [] else [])

abbrev pub unmarked : List Marked → List (List ℕ)
unmarked ms = flat_map unmark ms

-- a word with what may be a ' behind it
with_mark : (w v : List ℕ) (words : List (List ℕ)) (b : Bool) → is_prime v ≡ b
    → unmarked (marked words) ≡ words → unmarked (marked (v ∷ words)) ≡ v ∷ words
    → unmarked (if b then record { word = w; primed = true } ∷ marked words else record { word = w; primed = false } ∷ marked (v ∷ words)) ≡ w ∷ v ∷ words
with_mark w v words true is behind others = let prime : v ≡ codes "'" = text_is v (codes "'") is in cc
with_mark w v words false is behind others = ap (λ (l : List (List ℕ)). w ∷ l) others

-- marked words are the words again
pub unmarked-marked : (words : List (List ℕ)) → unmarked (marked words) ≡ words
unmarked-marked [] = refl
unmarked-marked (w ∷ []) = refl
unmarked-marked (w ∷ v ∷ words) = with_mark w v words (is_prime v) refl (unmarked-marked words) (unmarked-marked (v ∷ words))

-- a word that is this one, with no ' behind it
pub plain_is : (text : List ℕ) (m : Marked) → is_plain text m ≡ true → unmark m ≡ text ∷ []
plain_is text m e =
    let parts = and_parts (not m.primed) (bytes_eq m.word text) e in
    rw (not-true m.primed parts.0, text_is m.word text parts.1) refl

-- a sign
pub sign_is : (m : Marked) → is_plus_or_minus m ≡ true → unmark m ≡ sign_word (is_plain (codes "-") m) ∷ []
sign_is m e = by_test (is_plain (codes "-") m) refl
  where
    by_test : (b : Bool) → is_plain (codes "-") m ≡ b → unmark m ≡ sign_word b ∷ []
    by_test true minus = plain_is (codes "-") m minus
    by_test false not_minus = elim (or_cases (is_plain (codes "+") m) (is_plain (codes "-") m) e) [
      | inl plus ↦ plain_is (codes "+") m plus
      | inr minus ↦ absurd cc
    ]

-- a known operand is written by its name
pub factor_is : (first : List ℕ) (names : List (List ℕ)) (m : Marked) → number_of (first ∷ names) m.word ≢ 0
    → number_of (first ∷ names) m.word < length (first ∷ names) → factor_words names (factor_of (side_of (first ∷ names) m)) ≡ unmark m
factor_is first names m some below =
    let found = nth_name-behind first names (number_of (first ∷ names) m.word) some ∙ nth_name-number_of (first ∷ names) m.word below in
    ap (λ (w : List ℕ). w ∷ (if m.primed then codes "'" ∷ [] else [])) found
