-- Sums over the numbers from 0 up to, and without, n, and over parts of that range.
use Rattle.std.specs.Prelude.{ℕ, zero, suc, ◌+◌, ◌-◌, ◌*◌, ◌/◌, min}

-- f 0 + .. + f (n - 1)
abbrev pub sum_below : (ℕ → ℕ) → ℕ → ℕ
sum_below f zero = 0
sum_below f (suc n) = sum_below f n + f n

-- how many parts of length b a range of length n has: n divided by b, rounded up
abbrev pub part_count : ℕ → ℕ → ℕ
part_count n b = (n + b - 1) / b

-- the length of part p: b, but for a shorter last part
abbrev pub part_length : ℕ → ℕ → ℕ → ℕ
part_length n b p = min b (n - p * b)

-- the sum of f over part p
abbrev pub part_sum : ℕ → ℕ → (ℕ → ℕ) → ℕ → ℕ
part_sum n b f p = sum_below (λ i. f (p * b + i)) (part_length n b p)
