-- Writing entries of a list, a few at a time. Cited by the functions that write the sums of two or four lines.
use Rattle.std.proofs.Common.{◌≡◌, ◌≢◌, ℕ, List, length, slice_index, slice_set, min, ◌+◌, ◌*◌, ◌-◌, ◌<◌, ◌≤◌, ◌⊎◌, inl, inr, refl, ◌∙◌, ap, arith, get_or-set_other, get_or-set_same, length-set}
use Rattle.std.proofs.lemmas.Bool.{cases_eq, cases_lt}

-- xs, of so many entries, has f i in its place, for each i from j on, below j + t, and below n
pub record IsFilled (f place : ℕ → ℕ) (j t n size : ℕ) (xs : List ℕ) : Type 0 where
  pub len : length xs ≡ size
  pub entries : (i : ℕ) → j ≤ i → i < j + t → i < n → slice_index xs (place i) ≡ f i

-- at first there are none
pub IsFilled-none : (f place : ℕ → ℕ) (j n : ℕ) (xs : List ℕ) → IsFilled f place j 0 n (length xs) xs
IsFilled-none f place j n xs = record { len = refl; entries = λ i from till below. absurd (omega arith) }

-- the next entry is written, or the last one again where there is none
pub IsFilled-more : {f place : ℕ → ℕ} {j t n size : ℕ} {xs : List ℕ} (v at : ℕ) → IsFilled f place j t n size xs → place at < size
    → ((i : ℕ) → i < n → i ≢ at → place i ≢ place at) → 0 < n → at ≡ min (j + t) (n - 1) → v ≡ f at
    → IsFilled f place j (t + 1) n size (slice_set xs (place at) v)
IsFilled-more {f} {place} {j} {t} {n} {size} {xs} v at filled room apart some here value = record {
  len = length-set xs (place at) v ∙ filled.len;
  entries = λ i from till below. each i from till below (cases_eq i at);
}
  where
    each : (i : ℕ) → j ≤ i → i < j + (t + 1) → i < n → (i ≡ at) ⊎ (i ≢ at) → slice_index (slice_set xs (place at) v) (place i) ≡ f i
    each i from till below (inl e) = rw e (get_or-set_same xs (place at) v 0 (omega (arith, filled.len, room)) ∙ value)
    each i from till below (inr ne) = get_or-set_other xs (place at) (place i) v 0 (apart i below ne) ∙ filled.entries i from (omega arith) below

-- another place is written
pub IsFilled-elsewhere : {f place : ℕ → ℕ} {j t n size : ℕ} {xs : List ℕ} (v at : ℕ) → IsFilled f place j t n size xs
    → ((i : ℕ) → i < n → place i ≢ at) → IsFilled f place j t n size (slice_set xs at v)
IsFilled-elsewhere {place = place} {xs = xs} v at filled apart = record {
  len = length-set xs at v ∙ filled.len;
  entries = λ i from till below. get_or-set_other xs at (place i) v 0 (apart i below) ∙ filled.entries i from till below;
}

-- what bounds the entries of three rows bounds all
pub below_in_three : (xs : List ℕ) (m n : ℕ) → ((j : ℕ) → j < n → slice_index xs j < m) → ((j : ℕ) → j < n → slice_index xs (n + j) < m)
    → ((j : ℕ) → j < n → slice_index xs (2 * n + j) < m) → (p : ℕ) → p < 3 * n → slice_index xs p < m
below_in_three xs m n first second third p within = elim (cases_lt p n) [
  | inl lt ↦ first p lt
  | inr ge ↦ elim (cases_lt p (2 * n)) [
    | inl lt ↦ omega (arith, second (p - n) (omega arith), ap (λ t. slice_index xs t) (behind p n ge))
    | inr far ↦ omega (arith, third (p - 2 * n) (omega arith), ap (λ t. slice_index xs t) (behind p (2 * n) far))
  ]
]
  where
    behind : (q s : ℕ) → s ≤ q → q ≡ s + (q - s)
    behind q s le = omega arith
