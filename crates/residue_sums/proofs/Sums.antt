-- Sums over the numbers below n. Cited by the loops of the kernels, the equations of the six forms, the uniqueness of triangular,
-- LU and LDL solutions, and the sum over block tasks. `omega arith` takes a sum for an unknown, so laws of sums go into its list.
use Rattle.std.proofs.Common.{◌≡◌, ◌≢◌, ℕ, zero, suc, ◌+◌, ◌*◌, ◌-◌, ◌%◌, ◌<◌, ◌≤◌, ◌⊎◌, inl, inr, cond, eqb, refl, sym, ◌∙◌, ap, arith, add-zero, add-one}
use Rattle.std.proofs.Math.Nat.{add-suc, mod-mod}
use Rattle.std.proofs.lemmas.Bool.{cases_eq}
use Rattle.std.proofs.lemmas.Bool.Decides.{nat_tests}
use Rattle.residue_sums.specs.Residues.{Cong}
use Rattle.residue_sums.specs.Sums.{sum_below}
use Rattle.residue_sums.proofs.Congruence.{Cong-refl, Cong-from_same, Cong-sym, Cong-trans, Cong-add, Cong-by, Cong-mod, Cong-from_mod}

-- a sum over a range that is one longer
pub sum_below-more : (f : ℕ → ℕ) (n : ℕ) → sum_below f (n + 1) ≡ sum_below f n + f n
sum_below-more f n = rw add-one refl

-- sums whose terms are equal are equal
pub sum_below-same : (f g : ℕ → ℕ) (n : ℕ) → ((i : ℕ) → i < n → f i ≡ g i) → sum_below f n ≡ sum_below g n
sum_below-same f g zero each = refl
sum_below-same f g (suc n) each = omega (arith, sum_below-same f g n (λ i p. each i (omega arith)), each n (omega arith))

-- sums whose terms are congruent are congruent
pub sum_below-Cong : (m : ℕ) (f g : ℕ → ℕ) (n : ℕ) → ((i : ℕ) → i < n → Cong m (f i) (g i)) → Cong m (sum_below f n) (sum_below g n)
sum_below-Cong m f g zero each = Cong-refl m 0
sum_below-Cong m f g (suc n) each = Cong-add (sum_below-Cong m f g n (λ i p. each i (omega arith))) (each n (omega arith))

-- a sum whose terms are 0 is 0
pub sum_below-zero : (f : ℕ → ℕ) (n : ℕ) → ((i : ℕ) → i < n → f i ≡ 0) → sum_below f n ≡ 0
sum_below-zero f zero each = refl
sum_below-zero f (suc n) each = omega (arith, sum_below-zero f n (λ i p. each i (omega arith)), each n (omega arith))

-- a sum of n terms that are at most c is at most n * c
pub sum_below-le : (f : ℕ → ℕ) (n c : ℕ) → ((i : ℕ) → i < n → f i ≤ c) → sum_below f n ≤ n * c
sum_below-le f zero c each = omega arith
sum_below-le f (suc n) c each = omega (arith, sum_below-le f n c (λ i p. each i (omega arith)), each n (omega arith))

-- a sum of sums, term by term
pub sum_below-add : (f g : ℕ → ℕ) (n : ℕ) → sum_below (λ i. f i + g i) n ≡ sum_below f n + sum_below g n
sum_below-add f g zero = refl
sum_below-add f g (suc n) = omega (arith, sum_below-add f g n)

-- a factor in front of each term
pub sum_below-scale : (c : ℕ) (f : ℕ → ℕ) (n : ℕ) → sum_below (λ i. c * f i) n ≡ c * sum_below f n
sum_below-scale c f zero = omega arith
sum_below-scale c f (suc n) = omega (arith, sum_below-scale c f n)

-- a factor behind each term
pub sum_below-scale_right : (f : ℕ → ℕ) (c n : ℕ) → sum_below (λ i. f i * c) n ≡ sum_below f n * c
sum_below-scale_right f c zero = omega arith
sum_below-scale_right f c (suc n) = omega (arith, sum_below-scale_right f c n)

-- a sum over two ranges in either order
pub sum_below-swap : (f : ℕ → ℕ → ℕ) (n k : ℕ) → sum_below (λ i. sum_below (λ j. f i j) k) n ≡ sum_below (λ j. sum_below (λ i. f i j) n) k
sum_below-swap f zero k = sym (sum_below-zero (λ j. 0) k (λ j p. refl))
sum_below-swap f (suc n) k = omega (arith, sum_below-swap f n k, sum_below-add (λ j. sum_below (λ i. f i j) n) (λ j. f n j) k)

-- a sum over a range that is cut at n
pub sum_below-split : (f : ℕ → ℕ) (n k : ℕ) → sum_below f (n + k) ≡ sum_below f n + sum_below (λ i. f (n + i)) k
sum_below-split f n zero = omega (arith, ap (sum_below f) (add-zero n))
sum_below-split f n (suc k) = rw add-suc (omega (arith, sum_below-split f n k))

-- a sum whose terms from k on are 0 is that of the first k
pub sum_below-shrink : (f : ℕ → ℕ) (n k : ℕ) → k ≤ n → ((i : ℕ) → k ≤ i → i < n → f i ≡ 0) → sum_below f n ≡ sum_below f k
sum_below-shrink f n k le zeros =
    let rest : sum_below (λ i. f (k + i)) (n - k) ≡ 0 = sum_below-zero (λ i. f (k + i)) (n - k) (λ i p. zeros (k + i) (omega arith) (omega arith)) in
    let whole : n ≡ k + (n - k) = omega arith in
    omega (arith, ap (sum_below f) whole, sum_below-split f k (n - k))

-- a sum whose terms after k are 0
pub sum_below-last : (f : ℕ → ℕ) (n k : ℕ) → k < n → ((i : ℕ) → k < i → i < n → f i ≡ 0) → sum_below f n ≡ sum_below f k + f k
sum_below-last f n k p zeros = sum_below-shrink f n (suc k) (omega arith) (λ i q r. zeros i (omega arith) r)

-- a sum whose terms before k are 0
pub sum_below-first : (f : ℕ → ℕ) (n k : ℕ) → k < n → ((i : ℕ) → i < k → f i ≡ 0)
    → sum_below f n ≡ f k + sum_below (λ i. f (k + 1 + i)) (n - (k + 1))
sum_below-first f n k p zeros =
    let whole : n ≡ k + 1 + (n - (k + 1)) = omega arith in
    omega (arith, ap (sum_below f) whole, sum_below-split f (k + 1) (n - (k + 1)), sum_below-more f k, sum_below-zero f k zeros)

-- f with 0 for its value at k: a sum of the other terms
abbrev pub without : ℕ → (ℕ → ℕ) → ℕ → ℕ
without k f i = cond (eqb i k) 0 (f i)

-- the term left out
pub without-here : (k : ℕ) (f : ℕ → ℕ) (i : ℕ) → i ≡ k → without k f i ≡ 0
without-here k f i e = grind (arith, nat_tests)

-- another term
pub without-other : (k : ℕ) (f : ℕ → ℕ) (i : ℕ) → i ≢ k → without k f i ≡ f i
without-other k f i ne = grind (arith, nat_tests)

-- a sum is the term at k and the sum of the other terms
pub sum_below-one_out : (f : ℕ → ℕ) (n k : ℕ) → k < n → sum_below f n ≡ f k + sum_below (without k f) n
sum_below-one_out f zero k p = absurd (omega arith)
sum_below-one_out f (suc n) k p = elim (cases_eq n k) [
  | inl e ↦ omega (arith, ap f e, without-here k f n e, others_same)
  | inr ne ↦ omega (arith, sum_below-one_out f n k (omega arith), without-other k f n ne)
]
  where
    others_same : n ≤ k → sum_below (without k f) n ≡ sum_below f n
    others_same le = sum_below-same (without k f) f n (λ i q. without-other k f i (omega arith))

-- a sum whose terms but the one at k are 0 is that term
pub sum_below-only : (f : ℕ → ℕ) (n k : ℕ) → k < n → ((i : ℕ) → i < n → i ≢ k → f i ≡ 0) → sum_below f n ≡ f k
sum_below-only f n k p zeros = omega (arith, sum_below-one_out f n k p, sum_below-zero (without k f) n (λ i q. each i q (cases_eq i k)))
  where
    each : (i : ℕ) → i < n → (i ≡ k) ⊎ (i ≢ k) → without k f i ≡ 0
    each i q (inl e) = without-here k f i e
    each i q (inr ne) = without-other k f i ne ∙ zeros i q ne

-- two sums whose terms but those at k are congruent differ by what the terms at k differ
pub sum_below-one_differs : (m n k : ℕ) (f g : ℕ → ℕ) → k < n → ((i : ℕ) → i < n → i ≢ k → Cong m (f i) (g i))
    → Cong m (sum_below f n + g k) (sum_below g n + f k)
sum_below-one_differs m n k f g p others =
    let rest : Cong m (sum_below (without k f) n) (sum_below (without k g) n) =
    sum_below-Cong m (without k f) (without k g) n (λ i q. each i q (cases_eq i k)) in
    Cong-by rest (omega (arith, sum_below-one_out f n k p, sum_below-one_out g n k p))
  where
    each : (i : ℕ) → i < n → (i ≡ k) ⊎ (i ≢ k) → Cong m (without k f i) (without k g i)
    each i q (inl e) = Cong-from_same (without-here k f i e ∙ sym (without-here k g i e))
    each i q (inr ne) = Cong-trans (Cong-from_same (without-other k f i ne)) (Cong-trans (others i q ne) (Cong-from_same (sym (without-other k g i ne))))

-- where two sums are congruent, and all their terms but those at k, those are too
pub term_from_sums : (m n k : ℕ) (f g : ℕ → ℕ) → k < n → ((i : ℕ) → i < n → i ≢ k → Cong m (f i) (g i))
    → Cong m (sum_below f n) (sum_below g n) → Cong m (f k) (g k)
term_from_sums m n k f g p others same = Cong-by (Cong-add same (Cong-sym (sum_below-one_differs m n k f g p others))) (omega arith)

-- a step of a loop that adds up terms and reduces the sum: s is the sum so far, p what is congruent to the next term
pub Cong-sum_step : {m s p r : ℕ} (f : ℕ → ℕ) (k : ℕ) → Cong m s (sum_below f k) → Cong m p (f k) → r ≡ (s + p) % m → Cong m r (sum_below f (k + 1))
Cong-sum_step f k so_far next e = rw add-one (Cong-trans (Cong-from_mod e) (Cong-add so_far next))

-- the same where each number is the residue of a sum, for `using` on the function of the loop
pub mod_sum_step : {s p r : ℕ} (m : ℕ) (f : ℕ → ℕ) (k : ℕ) → s ≡ sum_below f k % m → p ≡ f k % m → r ≡ (s + p) % m → r ≡ sum_below f (k + 1) % m
mod_sum_step {s} {p} m f k so_far next e =
    let step : Cong m ((s + p) % m) (sum_below f (k + 1)) = Cong-sum_step f k (Cong-from_mod so_far) (Cong-from_mod next) refl in
    e ∙ sym (mod-mod (s + p) m) ∙ step.same

-- a step of a loop that adds up terms and does not reduce the sum
pub Cong-sum_step_exact : {m s p r : ℕ} (f : ℕ → ℕ) (k : ℕ) → Cong m s (sum_below f k) → Cong m p (f k) → r ≡ s + p → Cong m r (sum_below f (k + 1))
Cong-sum_step_exact f k so_far next e = rw add-one (Cong-trans (Cong-from_same e) (Cong-add so_far next))

-- the same in a loop that reduces the sum at times, for `using`
pub mod_sum_step_delayed : {p : ℕ} (m s : ℕ) (f : ℕ → ℕ) (k : ℕ) → s % m ≡ sum_below f k % m → p ≡ f k → (s + p) % m ≡ sum_below f (k + 1) % m
mod_sum_step_delayed {p} m s f k so_far next =
    let known : Cong m s (sum_below f k) = record { same = so_far } in
    let step : Cong m (s + p) (sum_below f (k + 1)) = Cong-sum_step_exact f k known (Cong-from_same next) refl in
    step.same

-- a step of a loop that adds up terms exactly
pub sum_step : {s p r : ℕ} (f : ℕ → ℕ) (k : ℕ) → s ≡ sum_below f k → p ≡ f k → r ≡ s + p → r ≡ sum_below f (k + 1)
sum_step f k so_far next e = rw add-one (omega arith)

-- delayed reduction: a sum reduced once is that of the residues
pub sum_below-mod : (m : ℕ) (f : ℕ → ℕ) (n : ℕ) → sum_below f n % m ≡ sum_below (λ i. f i % m) n % m
sum_below-mod m f n =
    let each : Cong m (sum_below f n) (sum_below (λ i. f i % m) n) = sum_below-Cong m f (λ i. f i % m) n (λ i p. Cong-sym (Cong-mod m (f i))) in
    each.same
