-- The inverse of a unit modulo m, as a function on all numbers.
use Rattle.std.specs.Prelude.{ℕ, zero, suc, ◌*◌, ◌%◌, ◌==◌, if◌then◌else◌}

-- the greatest v below n whose product with a is 1 modulo m, or 0 where there is none
abbrev pub inverse_below : ℕ → ℕ → ℕ → ℕ
inverse_below m a zero = 0
inverse_below m a (suc v) = if (a * v) % m == 1 then v else inverse_below m a v

-- the residue whose product with the unit a is 1 modulo m
abbrev pub inverse_of : ℕ → ℕ → ℕ
inverse_of m a = inverse_below m a m
