-- Words are the name of an operation and the number of a variant, or not.
use Rattle.std.proofs.Common.{◌≡◌, ◌≢◌, inl, inr, ◌⊎◌, ℕ, ◌≤◌, Bool, true, false, List, [], ◌∷◌, refl, ap, lit<, arith}
use Rattle.std.specs.Fmt.{decimal}
use Rattle.command_words.specs.Words.{AreSheetWords, may_name}
use Rattle.command_words.proofs.NumberWords.{InRangeOrNone, in_range_or_none}

abbrev pub NoSheetWords : List (List ℕ) → Type 0
NoSheetWords words = (op : List ℕ) (number : ℕ) → AreSheetWords op number → words ≢ op ∷ decimal number ∷ []

abbrev pub SheetWordsOrNone : List (List ℕ) → Type 0
SheetWordsOrNone words = ((op : List ℕ) × (number : ℕ) × AreSheetWords op number × (words ≡ op ∷ decimal number ∷ [])) ⊎ NoSheetWords words

-- the second word is no number of a variant
pub no_number : (op number : List ℕ) → ((n : ℕ) → 1 ≤ n → n ≤ 4294967295 → number ≢ decimal n) → NoSheetWords (op ∷ number ∷ [])
no_number op number none op' n are named = none n are.number_low (omega (arith, are.number_high)) (cc)

-- the first one names no operation
pub no_name : (op number : List ℕ) → may_name op ≡ false → NoSheetWords (op ∷ number ∷ [])
no_name op number none op' n are named = (let is = are.operation_named in absurd cc)

pub sheet_words_or_none : (words : List (List ℕ)) → SheetWordsOrNone words
sheet_words_or_none [] = inr (λ op n are named. absurd cc)
sheet_words_or_none (op ∷ []) = inr (λ op' n are named. absurd cc)
sheet_words_or_none (op ∷ number ∷ []) = go (in_range_or_none 1 4294967295 number (lit< tt)) (may_name op) refl
  where
    go : InRangeOrNone 1 4294967295 number → (named : Bool) → may_name op ≡ named → SheetWordsOrNone (op ∷ number ∷ [])
    go (inr none) named e = inr (no_number op number none)
    go (inl (n, from, to, is)) false e = inr (no_name op number e)
    go (inl (n, from, to, is)) true e =
        inl (op, n, record { operation_named = e; number_low = from; number_high = omega arith }, ap (λ (w : List ℕ). op ∷ w ∷ []) is)
sheet_words_or_none (op ∷ number ∷ more ∷ rest) = inr (λ op' n are named. absurd cc)
