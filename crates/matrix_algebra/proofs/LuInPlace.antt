-- The factors L * U of a matrix found in place, row by row. Cited by the kernel that factors in place: its loop invariant is
-- `LuWritten`, with the inverses of the pivots so far.
use Rattle.std.proofs.Common.{◌≡◌, ℕ, min, ◌+◌, ◌*◌, ◌<◌, ◌≤◌, sym, arith}
use Rattle.residue_sums.specs.Residues.{Cong, IsUnit}
use Rattle.residue_sums.specs.Sums.{sum_below}
use Rattle.residue_sums.specs.Tables.{Table}
use Rattle.residue_sums.proofs.Congruence.{Cong-sym, Cong-trans, Cong-by, Cong-from_same, IsUnit-Cong}
use Rattle.structure_rules.specs.declared.Structure.TheVariants.{General, UnitLower, Upper}
use Rattle.structure_rules.specs.Structures.{view}
use Rattle.matrix_algebra.specs.Factors.{IsLu, IsLuBadPivot}
use Rattle.matrix_algebra.proofs.InPlace.{WrittenBelow, OnlyAt, WrittenBelow-solve}
use Rattle.matrix_algebra.proofs.Packed.{pivot_of, pivot_of-solved, view-upper_above, IsUnitLower-view, IsUpper-view, row_first}
use Rattle.matrix_algebra.proofs.Places.{rowwise, IsOrder-ascending, IsPlacing-rowwise}
use Rattle.matrix_algebra.proofs.Lu.{lu_left, product-views, IsSystem-lu}

-- in `now` the entries whose place is below q are those of the factors of `before`, and all other entries are as in `before`
abbrev pub LuWritten : ℕ → ℕ → Table → Table → ℕ → Type 0
LuWritten m n before now q = WrittenBelow n n General (rowwise n (λ k. k) (λ k. k)) (λ w i j. Cong m (lu_left w i j) (before i j)) before now q

-- the next entry: the difference of its old value and the sum of the other terms, times the inverse of its pivot
pub LuWritten-step : (m n : ℕ) (before w w' : Table) (i j others inverse : ℕ) → i < n → j < n → LuWritten m n before w (i * n + j) → OnlyAt n n w w' i j
    → Cong m others (sum_below (λ k. w i k * w k j) (min i j))
    → Cong m (w' i j + others * inverse) (w i j * inverse) → (j < i → Cong m (w j j * inverse) 1) → (i ≤ j → inverse ≡ 1)
    → LuWritten m n before w' (i * n + j + 1)
LuWritten-step m n before w w' i j others inverse row col so_far only sum found lower upper =
    WrittenBelow-solve m n n General (rowwise n (λ k. k) (λ k. k)) lu_left pivot_of (IsSystem-lu m n)
    (IsPlacing-rowwise n n (λ k. k) (λ k. k) (IsOrder-ascending n) (IsOrder-ascending n) General) before w w' i j others
    (record { row = row; col = col; inside = λ none. none }) so_far only
    (Cong-by (Cong-sym sum) (omega arith))
    (pivot_of-solved m i j others (w' i j) inverse w found lower upper)

-- after k rows, the factors of the leading block of size k
pub IsLu-written : (m n k q : ℕ) (before now : Table) → k ≤ n → k * n ≤ q → LuWritten m n before now q → IsLu m k before (view UnitLower now) (view Upper now)
IsLu-written m n k q before now within rows written = record {
  lower = IsUnitLower-view k now;
  upper = IsUpper-view k now;
  equation = λ i j row col. Cong-trans (Cong-from_same (product-views k now i j row col))
      (written.written i j (record { row = omega arith; col = omega arith; inside = λ none. none })
      (let early : i * n + j < k * n + 0 = row_first n i j k 0 (omega arith) row in omega arith));
}

-- after k + 1 rows, where the first k pivots are units and the last is none
pub IsLuBadPivot-written : (m n k q : ℕ) (before now : Table) → k < n → (k + 1) * n ≤ q → LuWritten m n before now q
    → ((i : ℕ) → i < k → IsUnit m (now i i)) → ¬ (IsUnit m (now k k)) → IsLuBadPivot m n before k
IsLuBadPivot-written m n k q before now within rows written units bad = record {
  within = within;
  l = view UnitLower now;
  u = view Upper now;
  factors = IsLu-written m n (k + 1) q before now (omega arith) rows written;
  units = λ i h. IsUnit-Cong m (now i i) (view Upper now i i) (Cong-from_same (sym (view-upper_above now i i (omega arith)))) (units i h);
  bad = λ unit. bad (IsUnit-Cong m (view Upper now k k) (now k k) (Cong-from_same (view-upper_above now k k (omega arith))) unit);
}
