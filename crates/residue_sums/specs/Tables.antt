-- Tables: an entry for each row and each column, without bounds, so that they compose without shapes.
use Rattle.std.specs.Prelude.{ℕ, ◌+◌, ◌*◌, ◌%◌, Bool, ◌==◌, if◌then◌else◌}
use Rattle.residue_sums.specs.Sums.{sum_below}

abbrev pub Table : Type 0
Table = ℕ → ℕ → ℕ

-- 1 on the diagonal and 0 elsewhere
abbrev pub identity : Table
identity i j = if i == j then 1 else 0

-- rows and columns exchanged
abbrev pub transpose : Table → Table
transpose a i j = a j i

-- the transpose of a table that is primed, and any other table itself
abbrev pub oriented : Bool → Table → Table
oriented primed a i j = if primed then a j i else a i j

-- the product of two tables with an inner dimension of length n, as whole numbers
abbrev pub product : ℕ → Table → Table → Table
product n a b i j = sum_below (λ k. a i k * b k j) n

-- the product of two tables with an inner dimension of length n, modulo m
abbrev pub times : ℕ → ℕ → Table → Table → Table
times m n a b i j = product n a b i j % m

-- the sum of two tables, modulo m
abbrev pub plus : ℕ → Table → Table → Table
plus m a b i j = (a i j + b i j) % m
