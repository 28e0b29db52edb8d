-- Tests on numbers as numbers, for sums.
use Rattle.std.specs.Prelude.{ℕ, ◌==◌, nat_lt, if◌then◌else◌}

-- 1 where the numbers are equal, else 0
unfoldable pub same : ℕ → ℕ → ℕ
same a b = if a == b then 1 else 0

-- n where the numbers are equal, else 0
unfoldable pub when_same : ℕ → ℕ → ℕ → ℕ
when_same a b n = if a == b then n else 0

-- 1 where both pairs are equal, else 0
unfoldable pub same_pair : ℕ → ℕ → ℕ → ℕ → ℕ
same_pair a b c d = if a == c then (if b == d then 1 else 0) else 0

-- 1 below n, else 0
unfoldable pub below : ℕ → ℕ → ℕ
below n x = if nat_lt x n then 1 else 0
