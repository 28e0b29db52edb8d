-- What words begin with: numbers and words that are due there.
use Rattle.std.proofs.Common.{◌≡◌, ◌≢◌, inl, inr, ◌⊎◌, ℕ, ◌<◌, ◌≤◌, ◌^◌, Bool, true, false, List, [], ◌∷◌, ◌++◌, bytes_eq, refl, ap, ◌∙◌, lit<, arith}
use Rattle.std.specs.Prelude.{codes}
use Rattle.std.specs.Fmt.{decimal}
use Rattle.std.proofs.lemmas.Bool.Decides.{not_from_Decides}
use Rattle.std.proofs.lemmas.Slice.Eq.{bytes_eq-Decides}
use Rattle.command_words.specs.Words.{AreMakeNumbers, AreSizes, make_words, size_words}
use Rattle.command_words.proofs.NumberWords.{InRangeOrNone, in_range_or_none}

-- ---- words one by one

-- what isn't behind the first word isn't behind it in other words
pub no_tail : (first other : List ℕ) (words rest more : List (List ℕ)) → words ≡ first ∷ rest → rest ≢ more → words ≢ other ∷ more
no_tail first other words rest more is none named = none (cc)

abbrev NoNumber : ℕ → ℕ → List (List ℕ) → Type 0
NoNumber low high words = (n : ℕ) (rest : List (List ℕ)) → low ≤ n → n ≤ high → words ≢ decimal n ∷ rest

abbrev NoWord : List ℕ → List (List ℕ) → Type 0
NoWord word words = (rest : List (List ℕ)) → words ≢ word ∷ rest

-- ---- the numbers of a generated job: what isn't one of them, behind those that were read, makes that there are none

abbrev pub NoMakeNumbers : List (List ℕ) → Type 0
NoMakeNumbers words = (n m seed : ℕ) (rest : List (List ℕ)) → AreMakeNumbers n m seed → words ≢ make_words n m seed ++ rest

pub no_n : (words : List (List ℕ)) → NoNumber 0 1024 words → NoMakeNumbers words
no_n words none n m seed rest are = none n (decimal m ∷ decimal seed ∷ rest) (omega arith) are.n_high

pub no_m : (words one : List (List ℕ)) (n' : ℕ) → words ≡ decimal n' ∷ one → NoNumber 2 4294967295 one → NoMakeNumbers words
no_m words one n' first none n m seed rest are =
    no_tail (decimal n') (decimal n) words one (decimal m ∷ decimal seed ∷ rest) first
    (none m (decimal seed ∷ rest) are.m_low (omega (arith, are.m_high)))

pub no_seed : (words one two : List (List ℕ)) (n' m' : ℕ) → words ≡ decimal n' ∷ one → one ≡ decimal m' ∷ two
    → NoNumber 0 4294967295 two → NoMakeNumbers words
no_seed words one two n' m' first second none n m seed rest are =
    no_tail (decimal n') (decimal n) words one (decimal m ∷ decimal seed ∷ rest) first
    (no_tail (decimal m') (decimal m) one two (decimal seed ∷ rest) second (none seed rest (omega arith) (omega (arith, are.seed_high))))

pub are_make_numbers : (n m seed : ℕ) → n ≤ 1024 → 2 ≤ m → m ≤ 4294967295 → seed ≤ 4294967295 → AreMakeNumbers n m seed
are_make_numbers n m seed n_high m_low m_high seed_high =
    record { n_high = n_high; m_low = m_low; m_high = omega arith; seed_high = omega arith }

-- ---- the block size and the workers, in the same way

abbrev pub NoSizes : List (List ℕ) → Type 0
NoSizes words = (block workers : ℕ) (rest : List (List ℕ)) → AreSizes block workers → words ≢ size_words block workers ++ rest

pub no_block_word : (words : List (List ℕ)) → NoWord (codes "--block") words → NoSizes words
no_block_word words none block workers rest are = none (decimal block ∷ codes "--workers" ∷ decimal workers ∷ rest)

pub no_block : (words one : List (List ℕ)) → words ≡ codes "--block" ∷ one → NoNumber 1 1024 one → NoSizes words
no_block words one first none block workers rest are =
    no_tail (codes "--block") (codes "--block") words one (decimal block ∷ codes "--workers" ∷ decimal workers ∷ rest) first
    (none block (codes "--workers" ∷ decimal workers ∷ rest) are.block_low are.block_high)

-- what isn't behind the block size
behind_block : (words one two : List (List ℕ)) (b : ℕ) → words ≡ codes "--block" ∷ one → one ≡ decimal b ∷ two
    → ((workers : ℕ) (rest : List (List ℕ)) → 1 ≤ workers → workers ≤ 16 → two ≢ codes "--workers" ∷ decimal workers ∷ rest) → NoSizes words
behind_block words one two b first second none block workers rest are =
    no_tail (codes "--block") (codes "--block") words one (decimal block ∷ codes "--workers" ∷ decimal workers ∷ rest) first
    (no_tail (decimal b) (decimal block) one two (codes "--workers" ∷ decimal workers ∷ rest) second (none workers rest are.some_worker are.few_workers))

pub no_workers_word : (words one two : List (List ℕ)) (b : ℕ) → words ≡ codes "--block" ∷ one → one ≡ decimal b ∷ two
    → NoWord (codes "--workers") two → NoSizes words
no_workers_word words one two b first second none =
    behind_block words one two b first second (λ workers rest some few. none (decimal workers ∷ rest))

pub no_workers : (words one two three : List (List ℕ)) (b : ℕ) → words ≡ codes "--block" ∷ one → one ≡ decimal b ∷ two
    → two ≡ codes "--workers" ∷ three → NoNumber 1 16 three → NoSizes words
no_workers words one two three b first second third none = behind_block words one two b first second (λ workers rest some few.
    no_tail (codes "--workers") (codes "--workers") two three (decimal workers ∷ rest) third
    (none workers rest some few))

-- ---- words begin so, or not

abbrev pub SameOrOther : List ℕ → List ℕ → Type 0
SameOrOther word other = (word ≡ other) ⊎ (word ≢ other)

pub same_or_other : (word other : List ℕ) → SameOrOther word other
same_or_other word other = go (bytes_eq word other) refl
  where
    go : (test : Bool) → bytes_eq word other ≡ test → SameOrOther word other
    go true e = inl ((bytes_eq-Decides word other).0 e)
    go false e = inr (not_from_Decides (bytes_eq word other) (bytes_eq-Decides word other) e)

-- words that begin by different names
pub other_name : {first second : List ℕ} {rest more : List (List ℕ)} → first ∷ rest ≡ second ∷ more → bytes_eq first second ≡ false → ⊥
other_name {first} {second} named differ = not_from_Decides (bytes_eq first second) (bytes_eq-Decides first second) differ (cc)

abbrev pub WordOrNone : List ℕ → List (List ℕ) → Type 0
WordOrNone word words = ((rest : List (List ℕ)) × (words ≡ word ∷ rest)) ⊎ NoWord word words

pub word_or_none : (word : List ℕ) (words : List (List ℕ)) → WordOrNone word words
word_or_none word [] = inr (λ rest named. absurd cc)
word_or_none word (first ∷ rest) = go (same_or_other first word)
  where
    go : (first ≡ word) ⊎ (first ≢ word) → WordOrNone word (first ∷ rest)
    go (inl same) = inl (rest, ap (λ (w : List ℕ). w ∷ rest) same)
    go (inr other) = inr (λ more named. other (cc))

abbrev NumberOrNone : ℕ → ℕ → List (List ℕ) → Type 0
NumberOrNone low high words =
    ((n : ℕ) × (rest : List (List ℕ)) × (low ≤ n) × (n ≤ high) × (words ≡ decimal n ∷ rest)) ⊎ NoNumber low high words

number_first_or_none : (low high : ℕ) (words : List (List ℕ)) → high < 2 ^ 64 → NumberOrNone low high words
number_first_or_none low high [] limit = inr (λ n rest from to named. absurd cc)
number_first_or_none low high (first ∷ rest) limit = go (in_range_or_none low high first limit)
  where
    go : InRangeOrNone low high first → NumberOrNone low high (first ∷ rest)
    go (inl (n, from, to, is)) = inl (n, rest, from, to, ap (λ (w : List ℕ). w ∷ rest) is)
    go (inr none) = inr (λ n more from to named. none n from to (cc))

abbrev pub MakeNumbersOrNone : List (List ℕ) → Type 0
MakeNumbersOrNone words =
    ((n : ℕ) × (m : ℕ) × (seed : ℕ) × (rest : List (List ℕ)) × AreMakeNumbers n m seed × (words ≡ make_words n m seed ++ rest))
    ⊎ NoMakeNumbers words

pub make_numbers_or_none : (words : List (List ℕ)) → MakeNumbersOrNone words
make_numbers_or_none words = at_n (number_first_or_none 0 1024 words (lit< tt))
  where
    at_seed : (n m : ℕ) (one two : List (List ℕ)) → n ≤ 1024 → 2 ≤ m → m ≤ 4294967295 → words ≡ decimal n ∷ one → one ≡ decimal m ∷ two
        → NumberOrNone 0 4294967295 two → MakeNumbersOrNone words
    at_seed n m one two n_high m_low m_high first second (inr none) = inr (no_seed words one two n m first second none)
    at_seed n m one two n_high m_low m_high first second (inl (seed, rest, low, high, third)) =
        inl (
          n,
          m,
          seed,
          rest,
          are_make_numbers n m seed n_high m_low m_high high,
          first ∙ ap (λ (l : List (List ℕ)). decimal n ∷ l) (second ∙ ap (λ (l : List (List ℕ)). decimal m ∷ l) third),
        )

    at_m : (n : ℕ) (one : List (List ℕ)) → n ≤ 1024 → words ≡ decimal n ∷ one → NumberOrNone 2 4294967295 one → MakeNumbersOrNone words
    at_m n one n_high first (inr none) = inr (no_m words one n first none)
    at_m n one n_high first (inl (m, two, low, high, second)) =
        at_seed n m one two n_high low high first second (number_first_or_none 0 4294967295 two (lit< tt))

    at_n : NumberOrNone 0 1024 words → MakeNumbersOrNone words
    at_n (inr none) = inr (no_n words none)
    at_n (inl (n, one, low, high, first)) = at_m n one high first (number_first_or_none 2 4294967295 one (lit< tt))

abbrev pub SizesOrNone : List (List ℕ) → Type 0
SizesOrNone words =
    ((block : ℕ) × (workers : ℕ) × (rest : List (List ℕ)) × AreSizes block workers × (words ≡ size_words block workers ++ rest))
    ⊎ NoSizes words

pub sizes_or_none : (words : List (List ℕ)) → SizesOrNone words
sizes_or_none words = at_block_word (word_or_none (codes "--block") words)
  where
    at_workers : (one two three : List (List ℕ)) (b : ℕ) → 1 ≤ b → b ≤ 1024 → words ≡ codes "--block" ∷ one → one ≡ decimal b ∷ two
        → two ≡ codes "--workers" ∷ three → NumberOrNone 1 16 three → SizesOrNone words
    at_workers one two three b low high first second third (inr none) = inr (no_workers words one two three b first second third none)
    at_workers one two three b low high first second third (inl (k, rest, from, to, fourth)) =
        inl (
          b,
          k,
          rest,
          record { block_low = low; block_high = high; some_worker = from; few_workers = to },
          first ∙ ap (λ (l : List (List ℕ)). codes "--block" ∷ l) (second ∙ ap (λ (l : List (List ℕ)). decimal b ∷ l)
              (third ∙ ap (λ (l : List (List ℕ)). codes "--workers" ∷ l) fourth)),
        )

    at_workers_word : (one two : List (List ℕ)) (b : ℕ) → 1 ≤ b → b ≤ 1024 → words ≡ codes "--block" ∷ one → one ≡ decimal b ∷ two
        → WordOrNone (codes "--workers") two → SizesOrNone words
    at_workers_word one two b low high first second (inr none) = inr (no_workers_word words one two b first second none)
    at_workers_word one two b low high first second (inl (three, third)) =
        at_workers one two three b low high first second third (number_first_or_none 1 16 three (lit< tt))

    at_block : (one : List (List ℕ)) → words ≡ codes "--block" ∷ one → NumberOrNone 1 1024 one → SizesOrNone words
    at_block one first (inr none) = inr (no_block words one first none)
    at_block one first (inl (b, two, low, high, second)) =
        at_workers_word one two b low high first second (word_or_none (codes "--workers") two)

    at_block_word : WordOrNone (codes "--block") words → SizesOrNone words
    at_block_word (inr none) = inr (no_block_word words none)
    at_block_word (inl (one, first)) = at_block one first (number_first_or_none 1 1024 one (lit< tt))
