-- The factors of a product of two operands, or of three.
use Rattle.std.specs.Prelude.{◌≡◌, ℕ, ◌^◌, ◌<◌, Bool, true, if◌then◌else◌}
use Rattle.residue_sums.specs.Tables.{Table, times}
use Rattle.matrix_parts.specs.Opers.{op_rows, op_cols, op_table, IsOper}
use Rattle.part_updates.specs.declared.updates.factors.Factors.{Factors}

-- what the first factor is multiplied by: the second, or the middle one times the second
abbrev pub second_table : ℕ → Factors → Table
second_table m f = if f.scaled then times m (op_cols f.first) (op_table f.middle) (op_table f.second) else op_table f.second

-- their shapes agree; the middle one, where it counts, is square
pub record AreFactors (f : Factors) : Type 0 where
  pub first : IsOper f.first
  pub second : IsOper f.second
  pub middle : f.scaled ≡ true → IsOper f.middle
  pub inner : op_rows f.second ≡ op_cols f.first
  pub middle_rows : f.scaled ≡ true → op_rows f.middle ≡ op_cols f.first
  pub middle_cols : f.scaled ≡ true → op_cols f.middle ≡ op_cols f.first

-- their entries are below 2^32
pub record HaveSmallEntries (f : Factors) : Type 0 where
  pub first : (i k : ℕ) → i < op_rows f.first → k < op_cols f.first → op_table f.first i k < 2 ^ 32
  pub middle : f.scaled ≡ true → (i k : ℕ) → i < op_rows f.middle → k < op_cols f.middle → op_table f.middle i k < 2 ^ 32
  pub second : (k j : ℕ) → k < op_rows f.second → j < op_cols f.second → op_table f.second k j < 2 ^ 32
