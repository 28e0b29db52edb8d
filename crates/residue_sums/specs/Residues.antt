-- Arithmetic modulo m on natural numbers.
use Rattle.std.specs.Prelude.{◌≡◌, ℕ, ◌*◌, ◌%◌, ◌^◌, ◌<◌, ◌≤◌}

-- what residues may be taken by; it need not be a prime
pub record IsModulus (m : ℕ) : Type 0 where
  pub at_least_two : 2 ≤ m
  pub below_limit : m < 2 ^ 32

-- a and b have one residue modulo m
pub record Cong (m a b : ℕ) : Type 0 where
  pub same : a % m ≡ b % m

-- some residue times a is 1 modulo m
abbrev pub IsUnit : ℕ → ℕ → Type 0
IsUnit m a = (u : ℕ) × (u < m) × ((a * u) % m ≡ 1)
