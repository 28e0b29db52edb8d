-- Factors of a matrix modulo m without pivoting, and the first pivot that is no unit.
use Rattle.std.specs.Prelude.{ℕ, ◌+◌, ◌<◌, ◌≤◌}
use Rattle.residue_sums.specs.Residues.{Cong, IsUnit}
use Rattle.residue_sums.specs.Tables.{Table, product, transpose}
use Rattle.matrix_algebra.specs.Triangles.{IsUnitLower, IsUpper, IsDiagonal}

-- l * u is r in its first n rows and columns, with l unit lower and u upper
pub record IsLu (m n : ℕ) (r l u : Table) : Type 0 where
  pub lower : IsUnitLower n l
  pub upper : IsUpper n u
  pub equation : (i j : ℕ) → i < n → j < n → Cong m (product n l u i j) (r i j)

-- l * d * l' is r on and below the diagonal, in its first n rows and columns, with l unit lower and d diagonal
pub record IsLdl (m n : ℕ) (r l d : Table) : Type 0 where
  pub lower : IsUnitLower n l
  pub diagonal : IsDiagonal n d
  pub equation : (i j : ℕ) → j ≤ i → i < n → Cong m (product n (product n l d) (transpose l) i j) (r i j)

-- the leading block of size k + 1 of the n by n table r has factors L * U with units for its first k pivots, and none for the last
pub record IsLuBadPivot (m n : ℕ) (r : Table) (k : ℕ) : Type 0 where
  pub within : k < n
  pub l : Table
  pub u : Table
  pub factors : IsLu m (k + 1) r l u
  pub units : (i : ℕ) → i < k → IsUnit m (u i i)
  pub bad : ¬ (IsUnit m (u k k))

-- the leading block of size k + 1 of the n by n table r has factors L * D * L' with units for its first k pivots, and none for the last
pub record IsLdlBadPivot (m n : ℕ) (r : Table) (k : ℕ) : Type 0 where
  pub within : k < n
  pub l : Table
  pub d : Table
  pub factors : IsLdl m (k + 1) r l d
  pub units : (i : ℕ) → i < k → IsUnit m (d i i)
  pub bad : ¬ (IsUnit m (d k k))
