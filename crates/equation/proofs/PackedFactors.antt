-- Tables that pack the factors of one table: where no leading block has its first bad pivot last, they agree.
use Rattle.std.proofs.Common.{◌≡◌, ℕ, ◌%◌, ◌<◌, ◌≤◌, inl, inr, refl, sym, subst, arith}
use Rattle.std.proofs.Math.Nat.{mod-lt}
use Rattle.std.proofs.lemmas.Bool.{cases_lt}
use Rattle.residue_sums.specs.Residues.{Cong, IsUnit}
use Rattle.residue_sums.specs.Tables.{Table, product, transpose}
use Rattle.residue_sums.proofs.Congruence.{Cong-from_mod, Cong-sym}
use Rattle.structure_rules.specs.declared.Structure.TheVariants.{UnitLower, Upper, Diagonal}
use Rattle.structure_rules.specs.Structures.{view}
use Rattle.matrix_algebra.specs.Factors.{IsLu, IsLdl}
use Rattle.matrix_algebra.proofs.LuFactors.{lu_lower_unique, lu_upper_unique, lu_units}
use Rattle.matrix_algebra.proofs.LdlFactors.{ldl_lower_unique, ldl_diagonal_unique, ldl_units}
use Rattle.matrix_algebra.proofs.Packed.{view-unit_lower_below, view-upper_above, view-diagonal_here, IsUnitLower-view, IsUpper-view, IsDiagonal-view}
use Rattle.equation.specs.Pivots.{IsBadForLu, IsBadForLdl}
use Rattle.equation.proofs.ReducedFactors.{no_bad_lu, no_bad_ldl}

-- ---- L * U

-- the table packs L and U, and L * U is r in n rows and columns
pub record PacksLu (m n : ℕ) (r x : Table) : Type 0 where
  pub equation : (i j : ℕ) → i < n → j < n → r i j ≡ product n (view UnitLower x) (view Upper x) i j % m

module _ (m n : ℕ) (two : 2 ≤ m) (r : Table) (none : (k : ℕ) → k < n → ¬ (IsBadForLu m r k)) where
  module _ (x : Table) (is : PacksLu m n r x) where
    lu_residue : (i j : ℕ) → i < n → j < n → r i j < m
    lu_residue i j row col = subst (λ v. v < m) (sym (is.equation i j row col)) (mod-lt _ (omega arith))

    packed_lu : IsLu m n r (view UnitLower x) (view Upper x)
    packed_lu = record {
      lower = IsUnitLower-view n x;
      upper = IsUpper-view n x;
      equation = λ i j row col. Cong-sym (Cong-from_mod (is.equation i j row col));
    }

    lu_pivots : (i : ℕ) → i < n → IsUnit m (view Upper x i i)
    lu_pivots = lu_units m n two r (view UnitLower x) (view Upper x) packed_lu (no_bad_lu m n two r lu_residue none)

  pub one_packed_lu : (x y : Table) → PacksLu m n r x → PacksLu m n r y → (i j : ℕ) → i < n → j < n → Cong m (x i j) (y i j)
  one_packed_lu x y x_is y_is i j row col = elim (cases_lt j i) [
    | inl below ↦ rw (view-unit_lower_below x i j below, view-unit_lower_below y i j below) at
        (lu_lower_unique m n two r _ _ _ _ (packed_lu x x_is) (packed_lu y y_is) (λ k before. lu_pivots x x_is k (omega arith)) i j below row)
    | inr above ↦ rw (view-upper_above x i j above, view-upper_above y i j above) at
        (lu_upper_unique m n two r _ _ _ _ (packed_lu x x_is) (packed_lu y y_is) (λ k before. lu_pivots x x_is k (omega arith)) i j above col)
  ]

-- ---- L * D * L'

-- the table packs L and D, and L * D * L' is r on the diagonal and below it, in n rows and columns
pub record PacksLdl (m n : ℕ) (r x : Table) : Type 0 where
  pub equation : (i j : ℕ) → j ≤ i → i < n → r i j ≡ product n (product n (view UnitLower x) (view Diagonal x)) (transpose (view UnitLower x)) i j % m

module _ (m n : ℕ) (two : 2 ≤ m) (r : Table) (none : (k : ℕ) → k < n → ¬ (IsBadForLdl m r k)) where
  module _ (x : Table) (is : PacksLdl m n r x) where
    ldl_residue : (i j : ℕ) → j ≤ i → i < n → r i j < m
    ldl_residue i j low row = subst (λ v. v < m) (sym (is.equation i j low row)) (mod-lt _ (omega arith))

    packed_ldl : IsLdl m n r (view UnitLower x) (view Diagonal x)
    packed_ldl = record {
      lower = IsUnitLower-view n x;
      diagonal = IsDiagonal-view n x;
      equation = λ i j low row. Cong-sym (Cong-from_mod (is.equation i j low row));
    }

    ldl_pivots : (i : ℕ) → i < n → IsUnit m (view Diagonal x i i)
    ldl_pivots = ldl_units m n two r (view UnitLower x) (view Diagonal x) packed_ldl (no_bad_ldl m n two r ldl_residue none)

  module _ (x y : Table) (x_is : PacksLdl m n r x) (y_is : PacksLdl m n r y) where
    one_diagonal : (i : ℕ) → i < n → Cong m (x i i) (y i i)
    one_diagonal i row = rw (view-diagonal_here x i i refl, view-diagonal_here y i i refl) at
        (ldl_diagonal_unique m n two r _ _ _ _ (packed_ldl x x_is) (packed_ldl y y_is) (λ k before. ldl_pivots x x_is k (omega arith)) i row)

    pub one_packed_ldl : (i j : ℕ) → j ≤ i → i < n → Cong m (x i j) (y i j)
    one_packed_ldl i j low row = elim (cases_lt j i) [
      | inl below ↦ rw (view-unit_lower_below x i j below, view-unit_lower_below y i j below) at
          (ldl_lower_unique m n two r _ _ _ _ (packed_ldl x x_is) (packed_ldl y y_is) (λ k before. ldl_pivots x x_is k (omega arith)) i j below row)
      | inr level ↦
          let same : i ≡ j = omega arith in
          subst (λ (k : ℕ). Cong m (x i k) (y i k)) same (one_diagonal i row)
    ]
