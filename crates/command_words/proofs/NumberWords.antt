-- Words that are numbers as a whole, in a range.
use Rattle.std.proofs.Common.{◌≡◌, ◌≢◌, inl, inr, ◌⊎◌, ℕ, ◌<◌, ◌≤◌, ◌^◌, List, [], ◌∷◌, ◌++◌, Option, Some, None, refl, sym, ap, ◌∙◌, append-nil, arith}
use Rattle.std.specs.Fmt.{decimal}
use Rattle.std.proofs.lemmas.Bool.{cases_lt}
use Rattle.std.proofs.lemmas.Fmt.{decimal_injective}
use Rattle.byte_texts.specs.Decimals.{decimal_at}
use Rattle.byte_texts.proofs.Binding.{same_some_pair}
use Rattle.byte_texts.proofs.DecimalTexts.{decimal_takes, decimal_alone}

-- nothing follows the number
pub whole_word : (word : List ℕ) (n : ℕ) (rest : List ℕ) → decimal_at word ≡ Some (n, rest) → rest ≡ []
    → (n < 2 ^ 64) × (word ≡ decimal n)
whole_word word n rest read nothing =
    let taken = decimal_takes word n rest read in
    (taken.1, taken.0 ∙ ap (λ (r : List ℕ). decimal n ++ r) nothing ∙ append-nil (decimal n))

-- something follows the number
pub part_of_word : (word : List ℕ) (k : ℕ) (rest : List ℕ) → decimal_at word ≡ Some (k, rest) → rest ≢ []
    → (n : ℕ) → n < 2 ^ 64 → word ≢ decimal n
part_of_word word k rest read some n below is =
    let again : decimal_at word ≡ Some (n, []) = ap decimal_at is ∙ decimal_alone n below in
    some (same_some_pair (k, rest) (n, []) (sym read ∙ again)).1

-- no number leads
pub no_number : (word : List ℕ) → decimal_at word ≡ None → (n : ℕ) → n < 2 ^ 64 → word ≢ decimal n
no_number word none n below is =
    let again : decimal_at word ≡ Some (n, []) = ap decimal_at is ∙ decimal_alone n below in
    absurd cc

-- each word is a number or none
pub number_or_none : (word : List ℕ)
    → ((n : ℕ) × (n < 2 ^ 64) × (word ≡ decimal n)) ⊎ ((n : ℕ) → n < 2 ^ 64 → word ≢ decimal n)
number_or_none word = go (decimal_at word) refl
  where
    go : (read : Option (ℕ × List ℕ)) → decimal_at word ≡ read
        → ((n : ℕ) × (n < 2 ^ 64) × (word ≡ decimal n)) ⊎ ((n : ℕ) → n < 2 ^ 64 → word ≢ decimal n)
    go None e = inr (no_number word e)
    go (Some (n, [])) e = (let is = whole_word word n [] e refl in inl (n, is.0, is.1))
    go (Some (n, x ∷ rest)) e = inr (part_of_word word n (x ∷ rest) e (λ none. absurd cc))

-- a number out of the range is none in it
pub out_of_range : (word : List ℕ) (k low high : ℕ) → k < 2 ^ 64 → high < 2 ^ 64 → word ≡ decimal k
    → (low ≤ k → k ≤ high → ⊥) → (n : ℕ) → low ≤ n → n ≤ high → word ≢ decimal n
out_of_range word k low high below limit is out n from within named =
    let same = decimal_injective k n below (omega arith) (sym is ∙ named) in
    out (omega arith) (omega arith)

-- a number in a range, or none
abbrev pub InRangeOrNone : ℕ → ℕ → List ℕ → Type 0
InRangeOrNone low high word = ((n : ℕ) × (low ≤ n) × (n ≤ high) × (word ≡ decimal n))
    ⊎ ((n : ℕ) → low ≤ n → n ≤ high → word ≢ decimal n)

pub in_range_or_none : (low high : ℕ) (word : List ℕ) → high < 2 ^ 64 → InRangeOrNone low high word
in_range_or_none low high word limit = go (number_or_none word)
  where
    within : (k : ℕ) → k < 2 ^ 64 → word ≡ decimal k → (k < low) ⊎ (low ≤ k) → (high < k) ⊎ (k ≤ high)
        → InRangeOrNone low high word
    within k below is (inl small) high_or = inr (out_of_range word k low high below limit is (λ from to. absurd (omega arith)))
    within k below is (inr from) (inl large) = inr (out_of_range word k low high below limit is (λ from to. absurd (omega arith)))
    within k below is (inr from) (inr to) = inl (k, from, to, is)

    go : ((n : ℕ) × (n < 2 ^ 64) × (word ≡ decimal n)) ⊎ ((n : ℕ) → n < 2 ^ 64 → word ≢ decimal n) → InRangeOrNone low high word
    go (inl (k, below, is)) = within k below is (cases_lt k low) (cases_lt high k)
    go (inr none) = inr (λ n from to. none n (omega arith))
