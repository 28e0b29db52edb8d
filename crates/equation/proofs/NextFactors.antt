-- Where the leading blocks up to size k have no bad pivot, that of size k + 1 has factors modulo m: so its last pivot is bad, or it
-- has no bad pivot either.
use Rattle.std.proofs.Common.{◌≡◌, ℕ, ◌+◌, ◌<◌, ◌≤◌, ◌⊎◌, inl, inr, arith}
use Rattle.std.proofs.lemmas.Bool.{cases_lt}
use Rattle.residue_sums.specs.Residues.{Cong, IsUnit}
use Rattle.residue_sums.specs.Tables.{Table, product, transpose}
use Rattle.residue_sums.proofs.Inverses.{IsUnit-or_not}
use Rattle.structure_rules.specs.declared.Structure.TheVariants.{General, Lower, UnitLower, Upper, Diagonal}
use Rattle.structure_rules.specs.Structures.{view, IsEntry}
use Rattle.matrix_algebra.specs.Factors.{IsLu, IsLuBadPivot, IsLdl, IsLdlBadPivot}
use Rattle.matrix_algebra.proofs.Substitution.{Solution}
use Rattle.matrix_algebra.proofs.Packed.{IsUnitLower-view, IsUpper-view, IsDiagonal-view}
use Rattle.matrix_algebra.proofs.LuFactors.{IsLu-leading, IsLuBadPivot-within, lu_units, lu_solution, no_lu_bad_pivot}
use Rattle.matrix_algebra.proofs.LdlFactors.{IsLdl-leading, IsLdlBadPivot-within, ldl_units, ldl_solution, no_ldl_bad_pivot}
use Rattle.equation.specs.Pivots.{HasResidues, IsBadForLu, IsBadForLdl}
use Rattle.equation.proofs.FactorPivots.{lu_bad_pivot, ldl_bad_pivot}
use Rattle.equation.proofs.ReducedFactors.{no_bad_lu, bad_for_lu, no_bad_ldl, bad_for_ldl}

-- ---- L * U

-- the factors of the leading block of size k + 1
lu_next : (m : ℕ) → 2 ≤ m → (r : Table) (k : ℕ) → ((j : ℕ) → ¬ (IsLuBadPivot m k r j)) → (w : Table) × IsLu m (k + 1) r (view UnitLower w) (view Upper w)
lu_next m two r k none = (
  found.table,
  record {
    lower = IsUnitLower-view (k + 1) found.table;
    upper = IsUpper-view (k + 1) found.table;
    equation = λ i j row col. found.solves i j (record { row = row; col = col; inside = λ outside. outside });
  },
)
  where
    found : Solution m (IsEntry (k + 1) (k + 1) General) (λ w i j. Cong m (product (k + 1) (view UnitLower w) (view Upper w) i j) (r i j)) r
    found = lu_solution m (k + 1) two r r (λ j inner bad. none j (IsLuBadPivot-within m (k + 1) k j r (omega arith) bad))

-- so of each leading block it can be told whether its last pivot is the first bad one
pub bad_for_lu_or_not : (m : ℕ) → 2 ≤ m → (r : Table) → HasResidues m r → (k : ℕ) → ((j : ℕ) → j < k → ¬ (IsBadForLu m r j))
    → IsBadForLu m r k ⊎ ¬ (IsBadForLu m r k)
bad_for_lu_or_not m two r residues k earlier = elim (IsUnit-or_not m (u k k) two) [
  | inl unit ↦ inr (λ bad. no_lu_bad_pivot m (k + 1) two r l u next.1 (λ i row. all_units unit i row) k (lu_bad_pivot m (k + 1) r k (omega arith) bad))
  | inr bad ↦ inl (bad_for_lu m (k + 1) two r k (λ i j row col. residues i j) (record {
    within = omega arith;
    l = l;
    u = u;
    factors = next.1;
    units = units;
    bad = bad;
  }))
]
  where
    none : (j : ℕ) → ¬ (IsLuBadPivot m k r j)
    none = no_bad_lu m k two r (λ i j row col. residues i j) earlier

    next : (w : Table) × IsLu m (k + 1) r (view UnitLower w) (view Upper w)
    next = lu_next m two r k none

    l : Table
    l = view UnitLower next.0

    u : Table
    u = view Upper next.0

    units : (i : ℕ) → i < k → IsUnit m (u i i)
    units = lu_units m k two r l u (IsLu-leading m (k + 1) k r l u (omega arith) next.1) none

    all_units : IsUnit m (u k k) → (i : ℕ) → i < k + 1 → IsUnit m (u i i)
    all_units unit i row = elim (cases_lt i k) [
      | inl less ↦ units i less
      | inr last ↦ (let same : i ≡ k = omega arith in rw same unit)
    ]

-- ---- L * D * L'

-- the factors of the leading block of size k + 1
ldl_next : (m : ℕ) → 2 ≤ m → (r : Table) (k : ℕ) → ((j : ℕ) → ¬ (IsLdlBadPivot m k r j)) → (w : Table) × IsLdl m (k + 1) r (view UnitLower w) (view Diagonal w)
ldl_next m two r k none = (
  found.table,
  record {
    lower = IsUnitLower-view (k + 1) found.table;
    diagonal = IsDiagonal-view (k + 1) found.table;
    equation = λ i j low row. found.solves i j (record { row = row; col = omega arith; inside = λ over. omega arith });
  },
)
  where
    found : Solution m (IsEntry (k + 1) (k + 1) Lower) (λ w i j. Cong m (product (k + 1) (product (k + 1) (view UnitLower w) (view Diagonal w)) (transpose (view UnitLower w)) i j) (r i j)) r
    found = ldl_solution m (k + 1) two r r (λ j inner bad. none j (IsLdlBadPivot-within m (k + 1) k j r (omega arith) bad))

-- so of each leading block it can be told whether its last pivot is the first bad one
pub bad_for_ldl_or_not : (m : ℕ) → 2 ≤ m → (r : Table) → HasResidues m r → (k : ℕ) → ((j : ℕ) → j < k → ¬ (IsBadForLdl m r j))
    → IsBadForLdl m r k ⊎ ¬ (IsBadForLdl m r k)
bad_for_ldl_or_not m two r residues k earlier = elim (IsUnit-or_not m (d k k) two) [
  | inl unit ↦ inr (λ bad. no_ldl_bad_pivot m (k + 1) two r l d next.1 (λ i row. all_units unit i row) k (ldl_bad_pivot m (k + 1) r k (omega arith) bad))
  | inr bad ↦ inl (bad_for_ldl m (k + 1) two r k (λ i j low row. residues i j) (record {
    within = omega arith;
    l = l;
    d = d;
    factors = next.1;
    units = units;
    bad = bad;
  }))
]
  where
    none : (j : ℕ) → ¬ (IsLdlBadPivot m k r j)
    none = no_bad_ldl m k two r (λ i j low row. residues i j) earlier

    next : (w : Table) × IsLdl m (k + 1) r (view UnitLower w) (view Diagonal w)
    next = ldl_next m two r k none

    l : Table
    l = view UnitLower next.0

    d : Table
    d = view Diagonal next.0

    units : (i : ℕ) → i < k → IsUnit m (d i i)
    units = ldl_units m k two r l d (IsLdl-leading m (k + 1) k r l d (omega arith) next.1) none

    all_units : IsUnit m (d k k) → (i : ℕ) → i < k + 1 → IsUnit m (d i i)
    all_units unit i row = elim (cases_lt i k) [
      | inl less ↦ units i less
      | inr last ↦ (let same : i ≡ k = omega arith in rw same unit)
    ]
