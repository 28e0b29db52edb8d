-- The factors L * U of a matrix are unique, and so is the first bad pivot. Cited by the kernel that factors in place and by the one
-- solution of a statement.
use Rattle.std.proofs.Common.{◌≡◌, ℕ, ◌+◌, ◌<◌, ◌≤◌, sym, ◌∙◌, arith}
use Rattle.residue_sums.specs.Residues.{Cong, IsUnit}
use Rattle.residue_sums.specs.Tables.{Table, product}
use Rattle.residue_sums.proofs.Congruence.{Cong-sym, Cong-trans, Cong-from_same, IsUnit-Cong}
use Rattle.structure_rules.specs.declared.Structure.TheVariants.{General, UnitLower, Upper}
use Rattle.structure_rules.specs.Structures.{view, IsEntry}
use Rattle.structure_rules.proofs.Views.{IsEntry-or_not}
use Rattle.matrix_algebra.specs.Triangles.{IsUnitLower, IsUpper}
use Rattle.matrix_algebra.specs.Factors.{IsLu, IsLuBadPivot}
use Rattle.matrix_algebra.proofs.BadPivots.{BadFactors, all_units, none_bad, one_bad}
use Rattle.matrix_algebra.proofs.Substitution.{SolvesBelow, Solution, solution-unique, solution}
use Rattle.matrix_algebra.proofs.Places.{rowwise}
use Rattle.matrix_algebra.proofs.Packed.{pivot_of, pivot_of-unit, packed, packed-lower, packed-upper, view-upper_above, IsUnitLower-view, IsUpper-view, row_first}
use Rattle.matrix_algebra.proofs.Lu.{lu_left, product-views, product-packed, IsSystem-lu}

-- the entries of a general n by n matrix
general_entry : (n i j : ℕ) → i < n → j < n → IsEntry n n General i j
general_entry n i j row col = record { row = row; col = col; inside = λ none. none }

-- two pairs of factors of one matrix
module _ (m n : ℕ) (two : 2 ≤ m) (r l u l' u' : Table) (factors : IsLu m n r l u) (factors' : IsLu m n r l' u')
    (units : (i : ℕ) → i + 1 < n → IsUnit m (u i i)) where
  packed_agree : (i j : ℕ) → IsEntry n n General i j → Cong m (packed l u i j) (packed l' u' i j)
  packed_agree = solution-unique m (IsEntry n n General) (rowwise n (λ k. k) (λ k. k)) lu_left pivot_of (IsSystem-lu m n) two (packed l u) (packed l' u')
      (λ i j entry. pivot_of-unit m i j (packed l u) two
      (λ below. let row : i < n = entry.row in IsUnit-Cong m (u j j) (packed l u j j) (Cong-from_same (sym (packed-upper l u j j (omega arith)))) (units j (omega arith))))
      (λ i j entry. Cong-trans
      (Cong-trans (Cong-from_same (sym (product-packed n l u i j factors.lower factors.upper entry.row entry.col))) (factors.equation i j entry.row entry.col))
      (Cong-trans (Cong-sym (factors'.equation i j entry.row entry.col)) (Cong-from_same (product-packed n l' u' i j factors'.lower factors'.upper entry.row entry.col))))

  -- have one L, where all pivots but the last are units
  pub lu_lower_unique : (i j : ℕ) → j < i → i < n → Cong m (l i j) (l' i j)
  lu_lower_unique i j below row = rw (packed-lower l u i j below, packed-lower l' u' i j below) at (packed_agree i j (general_entry n i j row (omega arith)))

  -- and one U
  pub lu_upper_unique : (i j : ℕ) → i ≤ j → j < n → Cong m (u i j) (u' i j)
  lu_upper_unique i j above col = rw (packed-upper l u i j above, packed-upper l' u' i j above) at (packed_agree i j (general_entry n i j (omega arith) col))

-- factors of a matrix have the factors of each leading block
pub IsLu-leading : (m n k : ℕ) (r l u : Table) → k ≤ n → IsLu m n r l u → IsLu m k r l u
IsLu-leading m n k r l u le factors = record {
  lower = lower;
  upper = upper;
  equation = λ i j row col. Cong-trans
      (Cong-from_same (product-packed k l u i j lower upper row col ∙ sym (product-packed n l u i j factors.lower factors.upper (omega arith) (omega arith))))
      (factors.equation i j (omega arith) (omega arith));
}
  where
    lower : IsUnitLower k l
    lower = record { one = λ i row. factors.lower.one i (omega arith); above = λ i j h col. factors.lower.above i j h (omega arith) }

    upper : IsUpper k u
    upper = record { below = λ i j h row. factors.upper.below i j h (omega arith) }

-- the factors of the leading blocks, as the lemmas of bad pivots take them
abbrev lu_of : ℕ → Table → ℕ → Table → Table → Type 0
lu_of m r n l u = IsLu m n r l u

module _ (m : ℕ) (two : 2 ≤ m) (r : Table) where
  agree : (n : ℕ) (l u l' u' : Table) → IsLu m n r l u → IsLu m n r l' u' → ((i : ℕ) → i + 1 < n → IsUnit m (u i i)) → (i : ℕ) → i < n → Cong m (u i i) (u' i i)
  agree n l u l' u' factors factors' units i row = lu_upper_unique m n two r l u l' u' factors factors' units i i (omega arith) row

  leading : (n k : ℕ) (l u : Table) → k ≤ n → IsLu m n r l u → IsLu m k r l u
  leading n k l u le factors = IsLu-leading m n k r l u le factors

-- a bad pivot of a matrix, as these lemmas take it, and back
bad_of : (m n : ℕ) (r : Table) (k : ℕ) → IsLuBadPivot m n r k → BadFactors m (lu_of m r) k
bad_of m n r k bad = record { l = bad.l; d = bad.u; factors = bad.factors; units = bad.units; bad = bad.bad }

bad_from : (m n : ℕ) (r : Table) (k : ℕ) → k < n → BadFactors m (lu_of m r) k → IsLuBadPivot m n r k
bad_from m n r k within bad = record { within = within; l = bad.l; u = bad.d; factors = bad.factors; units = bad.units; bad = bad.bad }

-- a matrix has at most one bad pivot
pub lu_bad_pivot_unique : (m n : ℕ) → 2 ≤ m → (r : Table) (k k' : ℕ) → IsLuBadPivot m n r k → IsLuBadPivot m n r k' → k ≡ k'
lu_bad_pivot_unique m n two r k k' bad bad' = one_bad m two (lu_of m r) (leading m two r) (agree m two r) k k' (bad_of m n r k bad) (bad_of m n r k' bad')

-- a bad pivot of one leading block is one of each other leading block that reaches it
pub IsLuBadPivot-within : (m n n' k : ℕ) (r : Table) → k < n' → IsLuBadPivot m n r k → IsLuBadPivot m n' r k
IsLuBadPivot-within m n n' k r within bad = bad_from m n' r k within (bad_of m n r k bad)

-- a matrix with factors whose pivots are units has no bad pivot
pub no_lu_bad_pivot : (m n : ℕ) → 2 ≤ m → (r l u : Table) → IsLu m n r l u → ((i : ℕ) → i < n → IsUnit m (u i i)) → (k : ℕ) → ¬ (IsLuBadPivot m n r k)
no_lu_bad_pivot m n two r l u factors units k bad = none_bad m two (lu_of m r) (leading m two r) (agree m two r) n l u factors units k bad.within (bad_of m n r k bad)

-- where a matrix has no bad pivot, the pivots of its factors are units
pub lu_units : (m n : ℕ) → 2 ≤ m → (r l u : Table) → IsLu m n r l u → ((k : ℕ) → ¬ (IsLuBadPivot m n r k)) → (i : ℕ) → i < n → IsUnit m (u i i)
lu_units m n two r l u factors none i row =
    all_units m two (lu_of m r) (leading m two r) (agree m two r) n l u factors (λ k within bad. none k (bad_from m n r k within bad)) i row

-- a matrix with no bad pivot before the last place has factors, whatever its last pivot is
pub lu_solution : (m n : ℕ) → 2 ≤ m → (r other : Table) → ((k : ℕ) → k + 1 < n → ¬ (IsLuBadPivot m n r k))
    → Solution m (IsEntry n n General) (λ w i j. Cong m (product n (view UnitLower w) (view Upper w) i j) (r i j)) other
lu_solution m n two r other none = record {
  table = found.table;
  solves = λ i j entry. Cong-trans (Cong-from_same (product-views n found.table i j entry.row entry.col)) (found.solves i j entry);
  residues = found.residues;
  kept = found.kept;
}
  where
    -- each pivot that an entry is divided by belongs to a smaller block, so it is a unit
    units : (x : Table) (i j : ℕ) → IsEntry n n General i j → SolvesBelow m (IsEntry n n General) (rowwise n (λ k. k) (λ k. k)) lu_left r x (rowwise n (λ k. k) (λ k. k) i j)
        → IsUnit m (pivot_of x i j)
    units x i j entry before = pivot_of-unit m i j x two (λ below. IsUnit-Cong m (view Upper x j j) (x j j) (Cong-from_same (view-upper_above x j j (omega arith)))
        (lu_units m (j + 1) two r (view UnitLower x) (view Upper x) (leading below)
        (λ k bad. none k (omega (arith, bad.within, entry.row, below)) (IsLuBadPivot-within m (j + 1) n k r (omega (arith, bad.within, entry.col)) bad))
        j (omega arith)))
      where
        leading : j < i → IsLu m (j + 1) r (view UnitLower x) (view Upper x)
        leading below = record {
          lower = IsUnitLower-view (j + 1) x;
          upper = IsUpper-view (j + 1) x;
          equation = λ a b row col. Cong-trans (Cong-from_same (product-views (j + 1) x a b row col))
              (before a b (general_entry n a b (omega (arith, entry.col)) (omega (arith, entry.col))) (row_first n a b i j (omega (arith, entry.col)) (omega arith)));
        }

    found : Solution m (IsEntry n n General) (λ w i j. Cong m (lu_left w i j) (r i j)) other
    found = solution m (IsEntry n n General) (rowwise n (λ k. k) (λ k. k)) lu_left pivot_of (IsSystem-lu m n) r other two (IsEntry-or_not n n General) units
