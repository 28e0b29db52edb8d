-- Dimensions cut into parts of any lengths.
use Rattle.std.specs.Prelude.{◌≡◌, ℕ, suc, ◌+◌, ◌-◌, ◌%◌, ◌*◌, ◌≤◌, ◌<◌, List}
use Rattle.residue_sums.specs.Sums.{sum_below}
use Rattle.residue_sums.specs.Tables.{Table}
use Rattle.task_graph.specs.Tasks.{parts_of}

-- the indices from first up to, and without, past
pub record Range : Type 0 where
  pub first : ℕ
  pub past : ℕ

abbrev pub IsIn : Range → ℕ → Type 0
IsIn g k = (g.first ≤ k) × (k < g.past)

-- where each part of each dimension begins
abbrev pub Starts : Type 0
Starts = ℕ → ℕ → ℕ

-- part p of dimension d
abbrev pub part : Starts → ℕ → ℕ → Range
part starts d p = record { first = starts d p; past = starts d (suc p) }

-- the parts of each dimension follow one another from 0 on, and those of the first dimensions, so many, end at its
-- length; a part may be empty
pub record IsCut (dims : ℕ) (lengths : ℕ → ℕ) (counts : List ℕ) (starts : Starts) : Type 0 where
  pub from_zero : (d : ℕ) → starts d 0 ≡ 0
  pub ascending : (d p : ℕ) → starts d p ≤ starts d (suc p)
  pub to_length : (d : ℕ) → d < dims → starts d (parts_of counts d) ≡ lengths d

-- the sum of f over a range
abbrev pub range_sum : Range → (ℕ → ℕ) → ℕ
range_sum g f = sum_below (λ k. f (g.first + k)) (g.past - g.first)

-- the product of two tables over a range of the inner dimension, modulo m
abbrev pub times_over : ℕ → Range → Table → Table → Table
times_over m g a b i j = range_sum g (λ k. a i k * b k j) % m
