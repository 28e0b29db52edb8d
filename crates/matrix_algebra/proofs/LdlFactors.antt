-- The factors L * D * L' of a matrix are unique, and so is the first bad pivot. Cited by the kernel that factors in place and by the
-- one solution of a statement.
use Rattle.std.proofs.Common.{◌≡◌, ℕ, ◌+◌, ◌<◌, ◌≤◌, refl, sym, ◌∙◌, arith}
use Rattle.residue_sums.specs.Residues.{Cong, IsUnit}
use Rattle.residue_sums.specs.Tables.{Table, product, transpose}
use Rattle.residue_sums.proofs.Congruence.{Cong-sym, Cong-trans, Cong-from_same, IsUnit-Cong}
use Rattle.structure_rules.specs.declared.Structure.TheVariants.{Lower, UnitLower, Diagonal}
use Rattle.structure_rules.specs.Structures.{view, IsEntry}
use Rattle.structure_rules.proofs.Views.{IsEntry-or_not}
use Rattle.matrix_algebra.specs.Triangles.{IsUnitLower, IsDiagonal}
use Rattle.matrix_algebra.specs.Factors.{IsLdl, IsLdlBadPivot}
use Rattle.matrix_algebra.proofs.BadPivots.{BadFactors, all_units, none_bad, one_bad}
use Rattle.matrix_algebra.proofs.Substitution.{SolvesBelow, Solution, solution-unique, solution}
use Rattle.matrix_algebra.proofs.Places.{rowwise}
use Rattle.matrix_algebra.proofs.Packed.{pivot_of, pivot_of-unit, packed, packed-lower, packed-upper, view-diagonal_here, IsUnitLower-view, IsDiagonal-view, row_first}
use Rattle.matrix_algebra.proofs.Ldl.{ldl_left, product-views, product-packed, IsSystem-ldl}

-- the entries of a lower n by n matrix
lower_entry : (n i j : ℕ) → j ≤ i → i < n → IsEntry n n Lower i j
lower_entry n i j below row = record { row = row; col = omega arith; inside = λ over. omega arith }

-- two pairs of factors of one matrix
module _ (m n : ℕ) (two : 2 ≤ m) (r l d l' d' : Table) (factors : IsLdl m n r l d) (factors' : IsLdl m n r l' d')
    (units : (i : ℕ) → i + 1 < n → IsUnit m (d i i)) where
  packed_agree : (i j : ℕ) → IsEntry n n Lower i j → Cong m (packed l d i j) (packed l' d' i j)
  packed_agree = solution-unique m (IsEntry n n Lower) (rowwise n (λ k. k) (λ k. k)) ldl_left pivot_of (IsSystem-ldl m n) two (packed l d) (packed l' d')
      (λ i j entry. pivot_of-unit m i j (packed l d) two
      (λ below. let row : i < n = entry.row in IsUnit-Cong m (d j j) (packed l d j j) (Cong-from_same (sym (packed-upper l d j j (omega arith)))) (units j (omega arith))))
      (λ i j entry.
      let below : j ≤ i = omega (arith, entry.inside) in
      Cong-trans
      (Cong-trans (Cong-from_same (sym (product-packed n l d i j factors.lower factors.diagonal below entry.row))) (factors.equation i j below entry.row))
      (Cong-trans (Cong-sym (factors'.equation i j below entry.row)) (Cong-from_same (product-packed n l' d' i j factors'.lower factors'.diagonal below entry.row))))

  -- have one L, where all pivots but the last are units
  pub ldl_lower_unique : (i j : ℕ) → j < i → i < n → Cong m (l i j) (l' i j)
  ldl_lower_unique i j below row = rw (packed-lower l d i j below, packed-lower l' d' i j below) at (packed_agree i j (lower_entry n i j (omega arith) row))

  -- and one D
  pub ldl_diagonal_unique : (i : ℕ) → i < n → Cong m (d i i) (d' i i)
  ldl_diagonal_unique i row = rw (packed-upper l d i i (omega arith), packed-upper l' d' i i (omega arith)) at (packed_agree i i (lower_entry n i i (omega arith) row))

-- factors of a matrix have the factors of each leading block
pub IsLdl-leading : (m n k : ℕ) (r l d : Table) → k ≤ n → IsLdl m n r l d → IsLdl m k r l d
IsLdl-leading m n k r l d le factors = record {
  lower = lower;
  diagonal = diagonal;
  equation = λ i j below row. Cong-trans
      (Cong-from_same (product-packed k l d i j lower diagonal below row ∙ sym (product-packed n l d i j factors.lower factors.diagonal below (omega arith))))
      (factors.equation i j below (omega arith));
}
  where
    lower : IsUnitLower k l
    lower = record { one = λ i row. factors.lower.one i (omega arith); above = λ i j h col. factors.lower.above i j h (omega arith) }

    diagonal : IsDiagonal k d
    diagonal = record { apart = λ i j row col h. factors.diagonal.apart i j (omega arith) (omega arith) h }

-- the factors of the leading blocks, as the lemmas of bad pivots take them
abbrev ldl_of : ℕ → Table → ℕ → Table → Table → Type 0
ldl_of m r n l d = IsLdl m n r l d

module _ (m : ℕ) (two : 2 ≤ m) (r : Table) where
  agree : (n : ℕ) (l d l' d' : Table) → IsLdl m n r l d → IsLdl m n r l' d' → ((i : ℕ) → i + 1 < n → IsUnit m (d i i)) → (i : ℕ) → i < n → Cong m (d i i) (d' i i)
  agree n l d l' d' factors factors' units i row = ldl_diagonal_unique m n two r l d l' d' factors factors' units i row

  leading : (n k : ℕ) (l d : Table) → k ≤ n → IsLdl m n r l d → IsLdl m k r l d
  leading n k l d le factors = IsLdl-leading m n k r l d le factors

-- a bad pivot of a matrix, as these lemmas take it, and back
bad_of : (m n : ℕ) (r : Table) (k : ℕ) → IsLdlBadPivot m n r k → BadFactors m (ldl_of m r) k
bad_of m n r k bad = record { l = bad.l; d = bad.d; factors = bad.factors; units = bad.units; bad = bad.bad }

bad_from : (m n : ℕ) (r : Table) (k : ℕ) → k < n → BadFactors m (ldl_of m r) k → IsLdlBadPivot m n r k
bad_from m n r k within bad = record { within = within; l = bad.l; d = bad.d; factors = bad.factors; units = bad.units; bad = bad.bad }

-- a matrix has at most one bad pivot
pub ldl_bad_pivot_unique : (m n : ℕ) → 2 ≤ m → (r : Table) (k k' : ℕ) → IsLdlBadPivot m n r k → IsLdlBadPivot m n r k' → k ≡ k'
ldl_bad_pivot_unique m n two r k k' bad bad' = one_bad m two (ldl_of m r) (leading m two r) (agree m two r) k k' (bad_of m n r k bad) (bad_of m n r k' bad')

-- a bad pivot of one leading block is one of each other leading block that reaches it
pub IsLdlBadPivot-within : (m n n' k : ℕ) (r : Table) → k < n' → IsLdlBadPivot m n r k → IsLdlBadPivot m n' r k
IsLdlBadPivot-within m n n' k r within bad = bad_from m n' r k within (bad_of m n r k bad)

-- a matrix with factors whose pivots are units has no bad pivot
pub no_ldl_bad_pivot : (m n : ℕ) → 2 ≤ m → (r l d : Table) → IsLdl m n r l d → ((i : ℕ) → i < n → IsUnit m (d i i)) → (k : ℕ) → ¬ (IsLdlBadPivot m n r k)
no_ldl_bad_pivot m n two r l d factors units k bad = none_bad m two (ldl_of m r) (leading m two r) (agree m two r) n l d factors units k bad.within (bad_of m n r k bad)

-- where a matrix has no bad pivot, the pivots of its factors are units
pub ldl_units : (m n : ℕ) → 2 ≤ m → (r l d : Table) → IsLdl m n r l d → ((k : ℕ) → ¬ (IsLdlBadPivot m n r k)) → (i : ℕ) → i < n → IsUnit m (d i i)
ldl_units m n two r l d factors none i row =
    all_units m two (ldl_of m r) (leading m two r) (agree m two r) n l d factors (λ k within bad. none k (bad_from m n r k within bad)) i row

-- a matrix with no bad pivot before the last place has factors, whatever its last pivot is
pub ldl_solution : (m n : ℕ) → 2 ≤ m → (r other : Table) → ((k : ℕ) → k + 1 < n → ¬ (IsLdlBadPivot m n r k))
    → Solution m (IsEntry n n Lower) (λ w i j. Cong m (product n (product n (view UnitLower w) (view Diagonal w)) (transpose (view UnitLower w)) i j) (r i j)) other
ldl_solution m n two r other none = record {
  table = found.table;
  solves = λ i j entry. Cong-trans (Cong-from_same (product-views n found.table i j (omega (arith, entry.inside)) entry.row)) (found.solves i j entry);
  residues = found.residues;
  kept = found.kept;
}
  where
    -- each pivot that an entry is divided by belongs to a smaller block, so it is a unit
    units : (x : Table) (i j : ℕ) → IsEntry n n Lower i j → SolvesBelow m (IsEntry n n Lower) (rowwise n (λ k. k) (λ k. k)) ldl_left r x (rowwise n (λ k. k) (λ k. k) i j)
        → IsUnit m (pivot_of x i j)
    units x i j entry before = pivot_of-unit m i j x two (λ below. IsUnit-Cong m (view Diagonal x j j) (x j j) (Cong-from_same (view-diagonal_here x j j refl))
        (ldl_units m (j + 1) two r (view UnitLower x) (view Diagonal x) (leading below)
        (λ k bad. none k (omega (arith, bad.within, entry.row, below)) (IsLdlBadPivot-within m (j + 1) n k r (omega (arith, bad.within, entry.col)) bad))
        j (omega arith)))
      where
        leading : j < i → IsLdl m (j + 1) r (view UnitLower x) (view Diagonal x)
        leading below = record {
          lower = IsUnitLower-view (j + 1) x;
          diagonal = IsDiagonal-view (j + 1) x;
          equation = λ a b level row. Cong-trans (Cong-from_same (product-views (j + 1) x a b level row))
              (before a b (lower_entry n a b level (omega (arith, entry.col))) (row_first n a b i j (omega (arith, entry.col)) (omega arith)));
        }

    found : Solution m (IsEntry n n Lower) (λ w i j. Cong m (ldl_left w i j) (r i j)) other
    found = solution m (IsEntry n n Lower) (rowwise n (λ k. k) (λ k. k)) ldl_left pivot_of (IsSystem-ldl m n) r other two (IsEntry-or_not n n Lower) units
