-- The entries of one row in a piece of columns, found one after another.
use Rattle.std.specs.Prelude.{ℕ, ◌+◌, ◌*◌, ◌<◌, ◌≤◌, List, slice_index}
use Rattle.residue_sums.specs.Residues.{Cong}
use Rattle.residue_sums.specs.Sums.{sum_below}
use Rattle.residue_sums.specs.Tables.{Table}

-- number k behind the place `from` in line j of a panel whose lines have so many numbers
abbrev pub in_panel : List ℕ → ℕ → ℕ → Table
in_panel entries height from j k = slice_index entries (j * height + (from + k))

-- the first `count` entries are what the right sides leave: each equation has a sum, the products of the entries before it, at
-- most `known` of them, with its line, and the entry, times its pivot where it has the inverse of one
pub record AreSolved (m : ℕ) (right sums inverses : ℕ → ℕ) (lines : Table) (known count : ℕ) (values : ℕ → ℕ) : Type 0 where
  pub below : (j p : ℕ) → j < count → j < known → Cong m (p * inverses j) 1
      → Cong m (sums j + sum_below (λ k. values k * lines j k) j + p * values j) (right j)
  pub above : (j : ℕ) → j < count → known ≤ j → Cong m (sums j + sum_below (λ k. values k * lines j k) known + values j) (right j)
