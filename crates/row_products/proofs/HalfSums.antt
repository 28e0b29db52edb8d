-- Sums of products that are kept in two halves of 64 bits. Cited by the loops that add products, and by the reduction of their sums.
use Rattle.std.proofs.Common.{◌≡◌, ℕ, List, slice_index, zero, suc, ◌+◌, ◌*◌, ◌-◌, ◌/◌, ◌%◌, ◌^◌, ◌<◌, refl, ap, ◌∙◌, arith}
use Rattle.std.proofs.Math.Nat.{mod-mod}
use Rattle.std.proofs.lemmas.Nat.{mul-lt}
use Rattle.residue_sums.specs.Sums.{sum_below}
use Rattle.residue_sums.proofs.Sums.{sum_below-le, sum_below-same, mod_sum_step_delayed}
use Rattle.row_products.specs.HalfSums.{IsHalfSums, IsResidueOfHalves}

-- a step of a loop whose sum is kept modulo 2 ^ 64
wrapped_step : {s p r : ℕ} (f : ℕ → ℕ) (k : ℕ) → s ≡ sum_below f k % 2 ^ 64 → p ≡ f k → r ≡ (s + p) % 2 ^ 64 → r ≡ sum_below f (k + 1) % 2 ^ 64
wrapped_step {s} f k so_far next e = e ∙ mod_sum_step_delayed (2 ^ 64) s f k (ap (λ t. t % 2 ^ 64) so_far ∙ mod-mod (sum_below f k) (2 ^ 64)) next

-- the halves with one more product p
pub IsHalfSums-step : {low high p new_low new_high : ℕ} (f : ℕ → ℕ) (k : ℕ) → IsHalfSums f k low high → p ≡ f k
    → new_low ≡ (low + p) % 2 ^ 64 → new_high ≡ (high + p / 2 ^ 32) % 2 ^ 64 → IsHalfSums f (k + 1) new_low new_high
IsHalfSums-step f k so_far next low_next high_next = record {
  low_sum = wrapped_step f k so_far.low_sum next low_next;
  high_sum = wrapped_step (λ i. f i / 2 ^ 32) k so_far.high_sum (ap (λ t. t / 2 ^ 32) next) high_next;
}

-- a sum by the halves of its terms
by_halves : (f : ℕ → ℕ) (n : ℕ) → sum_below f n ≡ sum_below (λ k. f k / 2 ^ 32) n * 2 ^ 32 + sum_below (λ k. f k % 2 ^ 32) n
by_halves f zero = refl
by_halves f (suc n) = omega (arith, by_halves f n)

-- up to 2 ^ 31 products have halves whose sums fit in 64 bits
high_fits : (f : ℕ → ℕ) (n : ℕ) → n < 2 ^ 31 → ((k : ℕ) → k < n → f k < 2 ^ 64) → sum_below (λ k. f k / 2 ^ 32) n < 2 ^ 63
high_fits f n few below = omega (arith, sum_below-le (λ k. f k / 2 ^ 32) n (2 ^ 32) (λ k p. omega (arith, below k p)))

low_fits : (f : ℕ → ℕ) (n : ℕ) → n < 2 ^ 31 → sum_below (λ k. f k % 2 ^ 32) n < 2 ^ 63
low_fits f n few = omega (arith, sum_below-le (λ k. f k % 2 ^ 32) n (2 ^ 32) (λ k p. omega arith))

-- so the high sum did not wrap, and has room
pub IsHalfSums-high : {f : ℕ → ℕ} {n low high : ℕ} → n < 2 ^ 31 → ((k : ℕ) → k < n → f k < 2 ^ 64) → IsHalfSums f n low high → high < 2 ^ 63
IsHalfSums-high {f} {n} few below halves = omega (arith, halves.high_sum, high_fits f n few below)

-- and the low sum tells the rest of the whole one
pub IsHalfSums-whole : {f : ℕ → ℕ} {n low high : ℕ} → n < 2 ^ 31 → ((k : ℕ) → k < n → f k < 2 ^ 64) → IsHalfSums f n low high
    → high * 2 ^ 32 + (low + (2 ^ 64 - high * 2 ^ 32 % 2 ^ 64)) % 2 ^ 64 ≡ sum_below f n
IsHalfSums-whole {f} {n} few below halves =
    omega (arith, by_halves f n, high_fits f n few below, low_fits f n few, halves.low_sum, halves.high_sum)

-- the halves of so many products are those of as many
pub IsHalfSums-count : {f : ℕ → ℕ} {k n low high : ℕ} → k ≡ n → IsHalfSums f k low high → IsHalfSums f n low high
IsHalfSums-count e halves = rw e at halves

-- the sum of the products of xs and of the n numbers of zs that stand in line i from a place on
abbrev pub line_sum : (xs zs : List ℕ) (height from n i : ℕ) → ℕ
line_sum xs zs height from n i = sum_below (λ k. slice_index xs k * slice_index zs (i * height + (from + k))) n

-- it is what the halves of the products of xs and ys are reduced to, where ys are those numbers
pub residue_of_line : {low high r : ℕ} (m : ℕ) (xs ys zs : List ℕ) (height from n i : ℕ) → n < 2 ^ 31
    → ((k : ℕ) → k < n → slice_index xs k < 2 ^ 32) → ((k : ℕ) → k < n → slice_index zs (i * height + (from + k)) < 2 ^ 32)
    → ((k : ℕ) → k < n → slice_index ys k ≡ slice_index zs (i * height + (from + k)))
    → IsHalfSums (λ k. slice_index xs k * slice_index ys k) n low high → IsResidueOfHalves m low high r
    → r ≡ line_sum xs zs height from n i % m
residue_of_line m xs ys zs height from n i few small_row small_line line halves reduced =
    let f : ℕ → ℕ = λ k. slice_index xs k * slice_index ys k in
    let g : ℕ → ℕ = λ k. slice_index xs k * slice_index zs (i * height + (from + k)) in
    let same : (k : ℕ) → k < n → f k ≡ g k = λ k p. ap (λ t. slice_index xs k * t) (line k p) in
    let fits : (k : ℕ) → k < n → f k < 2 ^ 64 =
    λ k p. mul-lt (slice_index xs k) (slice_index ys k) (2 ^ 32) (2 ^ 32) (small_row k p) (omega (arith, line k p, small_line k p)) in
    reduced f n few fits halves ∙ ap (λ t. t % m) (sum_below-same f g n same)
