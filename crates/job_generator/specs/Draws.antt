-- Numbers that are drawn one after another from a seed, and matrices of such draws.
use Rattle.std.specs.Prelude.{ℕ, zero, suc, ◌+◌, ◌*◌, ◌-◌, ◌%◌, ◌==◌, nat_lt, if◌then◌else◌}
use Rattle.residue_sums.specs.Tables.{Table}

-- the prime that numbers are taken by
abbrev pub draw_prime : ℕ
draw_prime = 65537

-- the number that a seed begins with
abbrev pub first_number : ℕ → ℕ
first_number seed = seed % draw_prime

-- the number behind a number
abbrev pub next_number : ℕ → ℕ
next_number x = (75 * x + 74) % draw_prime

-- the number that comes so many draws behind x
abbrev pub number_after : ℕ → ℕ → ℕ
number_after zero x = x
number_after (suc draws) x = next_number (number_after draws x)

-- what is drawn behind the number x, as a residue modulo m, from draw 0 on
abbrev pub draw : ℕ → ℕ → ℕ → ℕ
draw m x k = number_after (suc k) x % m

-- how many entries of n rows and columns stand off the diagonal and before place (i, j), row by row: all before it, but for
-- one in each row above, and in its own row the one on the diagonal, where that is to its left
abbrev pub off_diagonal_before : ℕ → ℕ → ℕ → ℕ
off_diagonal_before n i j = (i * n + j) - (if nat_lt i j then i + 1 else i)

-- 1 on the diagonal, and elsewhere draws row by row
abbrev pub unit_diagonal_table : ℕ → ℕ → ℕ → Table
unit_diagonal_table m x n i j = if i == j then 1 else draw m x (off_diagonal_before n i j)

-- draws row by row
abbrev pub drawn_table : ℕ → ℕ → ℕ → Table
drawn_table m x n i j = draw m x (i * n + j)
