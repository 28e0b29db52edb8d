-- The factors L * D * L' of a matrix found in place, on and below the diagonal, row by row. Cited by the kernel that factors in
-- place: its loop invariant is `LdlWritten`, with the inverses of the pivots so far.
use Rattle.std.proofs.Common.{◌≡◌, ℕ, ◌+◌, ◌*◌, ◌<◌, ◌≤◌, refl, sym, arith}
use Rattle.residue_sums.specs.Residues.{Cong, IsUnit}
use Rattle.residue_sums.specs.Sums.{sum_below}
use Rattle.residue_sums.specs.Tables.{Table}
use Rattle.residue_sums.proofs.Congruence.{Cong-sym, Cong-trans, Cong-by, Cong-from_same, IsUnit-Cong}
use Rattle.structure_rules.specs.declared.Structure.TheVariants.{Lower, UnitLower, Diagonal}
use Rattle.structure_rules.specs.Structures.{view}
use Rattle.matrix_algebra.specs.Factors.{IsLdl, IsLdlBadPivot}
use Rattle.matrix_algebra.proofs.InPlace.{WrittenBelow, OnlyAt, WrittenBelow-solve}
use Rattle.matrix_algebra.proofs.Packed.{pivot_of, pivot_of-solved, view-diagonal_here, IsUnitLower-view, IsDiagonal-view, row_first}
use Rattle.matrix_algebra.proofs.Places.{rowwise, IsOrder-ascending, IsPlacing-rowwise}
use Rattle.matrix_algebra.proofs.Ldl.{ldl_left, product-views, IsSystem-ldl}

-- in `now` the lower entries whose place is below q are those of the factors of `before`, and all other entries are as in `before`
abbrev pub LdlWritten : ℕ → ℕ → Table → Table → ℕ → Type 0
LdlWritten m n before now q = WrittenBelow n n Lower (rowwise n (λ k. k) (λ k. k)) (λ w i j. Cong m (ldl_left w i j) (before i j)) before now q

-- the next entry: the difference of its old value and the sum of the other terms, times the inverse of its pivot
pub LdlWritten-step : (m n : ℕ) (before w w' : Table) (i j others inverse : ℕ) → j ≤ i → i < n → LdlWritten m n before w (i * n + j) → OnlyAt n n w w' i j
    → Cong m others (sum_below (λ k. w i k * (w k k * w j k)) j)
    → Cong m (w' i j + others * inverse) (w i j * inverse) → (j < i → Cong m (w j j * inverse) 1) → (i ≤ j → inverse ≡ 1)
    → LdlWritten m n before w' (i * n + j + 1)
LdlWritten-step m n before w w' i j others inverse below row so_far only sum found lower upper =
    WrittenBelow-solve m n n Lower (rowwise n (λ k. k) (λ k. k)) ldl_left pivot_of (IsSystem-ldl m n)
    (IsPlacing-rowwise n n (λ k. k) (λ k. k) (IsOrder-ascending n) (IsOrder-ascending n) Lower) before w w' i j others
    (record { row = row; col = omega arith; inside = λ over. omega arith }) so_far only
    (Cong-by (Cong-sym sum) (omega arith))
    (pivot_of-solved m i j others (w' i j) inverse w found lower upper)

-- after k rows, the factors of the leading block of size k
pub IsLdl-written : (m n k q : ℕ) (before now : Table) → k ≤ n → k * n ≤ q → LdlWritten m n before now q → IsLdl m k before (view UnitLower now) (view Diagonal now)
IsLdl-written m n k q before now within rows written = record {
  lower = IsUnitLower-view k now;
  diagonal = IsDiagonal-view k now;
  equation = λ i j below row. Cong-trans (Cong-from_same (product-views k now i j below row))
      (written.written i j (record { row = omega arith; col = omega arith; inside = λ over. omega arith })
      (let early : i * n + j < k * n + 0 = row_first n i j k 0 (omega arith) row in omega arith));
}

-- after k + 1 rows, where the first k pivots are units and the last is none
pub IsLdlBadPivot-written : (m n k q : ℕ) (before now : Table) → k < n → (k + 1) * n ≤ q → LdlWritten m n before now q
    → ((i : ℕ) → i < k → IsUnit m (now i i)) → ¬ (IsUnit m (now k k)) → IsLdlBadPivot m n before k
IsLdlBadPivot-written m n k q before now within rows written units bad = record {
  within = within;
  l = view UnitLower now;
  d = view Diagonal now;
  factors = IsLdl-written m n (k + 1) q before now (omega arith) rows written;
  units = λ i h. IsUnit-Cong m (now i i) (view Diagonal now i i) (Cong-from_same (sym (view-diagonal_here now i i refl))) (units i h);
  bad = λ unit. bad (IsUnit-Cong m (view Diagonal now k k) (now k k) (Cong-from_same (view-diagonal_here now k k refl)) unit);
}
