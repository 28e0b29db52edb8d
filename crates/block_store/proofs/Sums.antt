-- Sums whose terms are compared, and tests on numbers as numbers.
use Rattle.std.proofs.Common.{◌≡◌, ◌≢◌, ℕ, zero, suc, ◌+◌, ◌*◌, ◌<◌, ◌≤◌, inl, inr, sym, ap, ◌∙◌, arith}
use Rattle.std.proofs.lemmas.Bool.{cases_eq}
use Rattle.std.proofs.lemmas.Bool.Decides.{nat_tests}
use Rattle.std.specs.Int.Bits.{bit_or, or_block, or_zero_r}
use Rattle.residue_sums.specs.Sums.{sum_below}
use Rattle.residue_sums.proofs.Sums.{sum_below-same}
use Rattle.block_store.specs.Sums.{same, when_same, same_pair, below}

-- ---- tests on numbers

pub same-eq : (a b : ℕ) → a ≡ b → same a b ≡ 1
unfolding same
same-eq a b e = grind (arith, nat_tests)

pub same-ne : (a b : ℕ) → a ≢ b → same a b ≡ 0
unfolding same
same-ne a b ne = grind (arith, nat_tests)

pub same-of : (a b : ℕ) → 0 < same a b → a ≡ b
same-of a b h = elim (cases_eq a b) [ inl e ↦ e | inr ne ↦ absurd (omega (arith, same-ne a b ne)) ]

pub when_same-eq : (a b n : ℕ) → a ≡ b → when_same a b n ≡ n
unfolding when_same
when_same-eq a b n e = grind (arith, nat_tests)

pub when_same-ne : (a b n : ℕ) → a ≢ b → when_same a b n ≡ 0
unfolding when_same
when_same-ne a b n ne = grind (arith, nat_tests)

-- where the numbers don't count as equal, the other one doesn't count
pub when_same-zero : (a b n : ℕ) → same a b ≡ 0 → when_same a b n ≡ 0
when_same-zero a b n z = elim (cases_eq a b) [ inl e ↦ absurd (omega (arith, same-eq a b e)) | inr ne ↦ when_same-ne a b n ne ]

pub same_pair-eq : (a b c d : ℕ) → a ≡ c → b ≡ d → same_pair a b c d ≡ 1
unfolding same_pair
same_pair-eq a b c d e f = grind (arith, nat_tests)

pub same_pair-left : (a b c d : ℕ) → a ≢ c → same_pair a b c d ≡ 0
unfolding same_pair
same_pair-left a b c d ne = grind (arith, nat_tests)

pub same_pair-right : (a b c d : ℕ) → b ≢ d → same_pair a b c d ≡ 0
unfolding same_pair
same_pair-right a b c d ne = grind (arith, nat_tests)

pub below-lt : (n x : ℕ) → x < n → below n x ≡ 1
unfolding below
below-lt n x lt = grind (arith, nat_tests)

pub below-ge : (n x : ℕ) → n ≤ x → below n x ≡ 0
unfolding below
below-ge n x ge = grind (arith, nat_tests)

pub below-more : (n x : ℕ) → below (n + 1) x ≡ below n x + same n x
unfolding below same
below-more n x = grind (arith, nat_tests)

-- ---- sums

pub sum_below-mono : (f g : ℕ → ℕ) (n : ℕ) → ((i : ℕ) → i < n → f i ≤ g i) → sum_below f n ≤ sum_below g n
sum_below-mono f g zero each = omega arith
sum_below-mono f g (suc n) each = omega (arith, sum_below-mono f g n (λ i p. each i (omega arith)), each n (omega arith))

pub sum_below-at : (f : ℕ → ℕ) (i n : ℕ) → i < n → f i ≤ sum_below f n
sum_below-at f i zero p = absurd (omega arith)
sum_below-at f i (suc n) p = elim (cases_eq i n) [
  | inl e ↦ omega (arith, ap f e)
  | inr ne ↦ omega (arith, sum_below-at f i n (omega arith))
]

-- some term of a sum that isn't 0 isn't 0
pub some_term : (f : ℕ → ℕ) (n : ℕ) → 0 < sum_below f n → (i : ℕ) × (i < n) × (0 < f i)
some_term f zero h = absurd (omega arith)
some_term f (suc n) h = elim (cases_eq (f n) 0) [
  | inl z ↦ let r = some_term f n (omega arith) in (r.0, omega arith, r.2)
  | inr nz ↦ (n, omega arith, omega arith)
]

-- two sums whose terms but those at a are equal
pub sum_below-one : (f g : ℕ → ℕ) (a n : ℕ) → a < n → ((i : ℕ) → i ≢ a → g i ≡ f i) → sum_below g n + f a ≡ sum_below f n + g a
sum_below-one f g a zero p each = absurd (omega arith)
sum_below-one f g a (suc n) p each = elim (cases_eq a n) [
  | inl e ↦ omega (arith, ap f e, ap g e, sum_below-same g f n (λ i q. each i (λ h. omega arith)))
  | inr ne ↦ omega (arith, sum_below-one f g a n (omega arith) each, each n (λ h. ne (sym h)))
]

-- where the terms are no greater, and one of them is less, the sum is less
pub sum_below-strict : (f g : ℕ → ℕ) (a n : ℕ) → a < n → ((i : ℕ) → i < n → f i ≤ g i) → f a < g a → sum_below f n < sum_below g n
sum_below-strict f g a zero p each less = absurd (omega arith)
sum_below-strict f g a (suc n) p each less = elim (cases_eq a n) [
  | inl e ↦ omega (arith, ap f e, ap g e, sum_below-mono f g n (λ i q. each i (omega arith)))
  | inr ne ↦ omega (arith, sum_below-strict f g a n (omega arith) (λ i q. each i (omega arith)) less, each n (omega arith))
]

-- where the terms are no greater and the sums are equal, the terms are equal
pub sum_below-tight : (f g : ℕ → ℕ) (n : ℕ) → ((i : ℕ) → i < n → f i ≤ g i) → sum_below f n ≡ sum_below g n → (i : ℕ) → i < n → f i ≡ g i
sum_below-tight f g zero each e i p = absurd (omega arith)
sum_below-tight f g (suc n) each e i p =
    let le : sum_below f n ≤ sum_below g n = sum_below-mono f g n (λ j q. each j (omega arith)) in
    let last = each n (omega arith) in
    elim (cases_eq i n) [
      | inl h ↦ omega (arith, ap f h, ap g h)
      | inr ne ↦ sum_below-tight f g n (λ j q. each j (omega arith)) (omega arith) i (omega arith)
    ]

-- where the first term is 0 and no other is above c
pub sum_below-le_but_first : (f : ℕ → ℕ) (c n : ℕ) → f 0 ≡ 0 → ((i : ℕ) → f i ≤ c) → sum_below f (suc n) ≤ n * c
sum_below-le_but_first f c zero z each = omega (arith, z)
sum_below-le_but_first f c (suc n) z each = omega (arith, sum_below-le_but_first f c n z each, each (suc n))

-- where such a sum is as great as it can be, so is each term
pub sum_below-full : (f : ℕ → ℕ) (c n : ℕ) → f 0 ≡ 0 → ((i : ℕ) → f i ≤ c) → sum_below f (suc n) ≡ n * c → (i : ℕ) → 0 < i → i ≤ n → f i ≡ c
sum_below-full f c zero z each full i low high = absurd (omega arith)
sum_below-full f c (suc n) z each full i low high =
    let last = each (suc n) in
    let bound = sum_below-le_but_first f c n z each in
    elim (cases_eq i (suc n)) [
      | inl e ↦ omega (arith, ap f e)
      | inr ne ↦ sum_below-full f c n z each (omega arith) i low (omega arith)
    ]

-- two sums whose terms are equal up to a place, and behind it are 0 in the one that goes on
pub sum_below-cut : (f g : ℕ → ℕ) (k n : ℕ) → k ≤ n → ((i : ℕ) → i < k → f i ≡ g i) → ((i : ℕ) → k ≤ i → i < n → f i ≡ 0) → sum_below f n ≡ sum_below g k
sum_below-cut f g k zero le low high = let e : k ≡ 0 = omega arith in sym (ap (sum_below g) e)
sum_below-cut f g k (suc n) le low high = elim (cases_eq k (suc n)) [
  | inl e ↦ sum_below-same f g (suc n) (λ i q. low i (omega arith)) ∙ ap (sum_below g) (sym e)
  | inr ne ↦ omega (arith, sum_below-cut f g k n (omega arith) low (λ i q r. high i q (omega arith)), high n (omega arith) (omega arith))
]

-- ---- bits

-- the bit 2 ^ 33 joins a number whose part above is that bit or nothing
pub or_mark : (m a r : ℕ) → a ≤ 1 → r < 8589934592 → m ≡ a * 8589934592 + r → bit_or m 8589934592 ≡ 8589934592 + r
or_mark m zero r le lt is = ap (λ x. bit_or x 8589934592) is ∙ (or_block 33 0 1 r 0 lt (omega arith) ∙ ap (λ x. 8589934592 + x) (or_zero_r r))
or_mark m (suc zero) r le lt is = ap (λ x. bit_or x 8589934592) is ∙ (or_block 33 1 1 r 0 lt (omega arith) ∙ ap (λ x. 8589934592 + x) (or_zero_r r))
or_mark m (suc (suc a)) r le lt is = absurd (omega arith)
