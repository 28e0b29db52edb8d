-- A sum of products as two numbers of 64 bits.
use Rattle.std.specs.Prelude.{◌≡◌, ℕ, ◌/◌, ◌%◌, ◌<◌, ◌^◌}
use Rattle.residue_sums.specs.Sums.{sum_below}

-- low is the sum of the first n products f k, and high that of what they have above their low 32 bits, both modulo 2 ^ 64
pub record IsHalfSums (f : ℕ → ℕ) (n low high : ℕ) : Type 0 where
  pub low_sum : low ≡ sum_below f n % 2 ^ 64
  pub high_sum : high ≡ sum_below (λ k. f k / 2 ^ 32) n % 2 ^ 64

-- r is the residue of each sum of fewer than 2 ^ 31 products that has these halves
abbrev pub IsResidueOfHalves : (m low high r : ℕ) → Type 0
IsResidueOfHalves m low high r = (f : ℕ → ℕ) (n : ℕ) → n < 2 ^ 31 → ((k : ℕ) → k < n → f k < 2 ^ 64)
    → IsHalfSums f n low high → r ≡ sum_below f n % m
