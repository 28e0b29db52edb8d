-- Tables whose first n rows and columns are triangular or diagonal.
use Rattle.std.specs.Prelude.{◌≡◌, ◌≢◌, ℕ, ◌<◌}
use Rattle.residue_sums.specs.Tables.{Table}

-- 1 on the diagonal, 0 above
pub record IsUnitLower (n : ℕ) (l : Table) : Type 0 where
  pub one : (i : ℕ) → i < n → l i i ≡ 1
  pub above : (i j : ℕ) → i < j → j < n → l i j ≡ 0

-- 0 below the diagonal
pub record IsUpper (n : ℕ) (u : Table) : Type 0 where
  pub below : (i j : ℕ) → j < i → i < n → u i j ≡ 0

-- 0 off the diagonal
pub record IsDiagonal (n : ℕ) (d : Table) : Type 0 where
  pub apart : (i j : ℕ) → i < n → j < n → i ≢ j → d i j ≡ 0
