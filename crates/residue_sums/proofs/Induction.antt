-- Induction over the entries of a table in an order of their own, as that in which a triangular system is solved.
-- Cited by the uniqueness of the solutions that are found entry by entry.
use Rattle.std.proofs.Common.{ℕ, zero, suc, ◌<◌, arith}
use Rattle.residue_sums.specs.Tables.{Table}

-- what holds of an entry once it holds of all that come before it holds of each
pub by_place : (P : ℕ → ℕ → Type 0) (place : Table) → ((i j : ℕ) → ((a b : ℕ) → place a b < place i j → P a b) → P i j) → (i j : ℕ) → P i j
by_place P place step i j = step i j (before (place i j))
  where
    before : (q : ℕ) → (a b : ℕ) → place a b < q → P a b
    before zero a b below = absurd (omega arith)
    before (suc q) a b below = step a b (λ c d earlier. before q c d (omega arith))
