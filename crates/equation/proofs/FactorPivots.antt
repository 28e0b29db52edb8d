-- Of the forms that find factors, too, one place at most is the first bad pivot: the factors of leading blocks agree.
use Rattle.std.proofs.Common.{◌≡◌, ℕ, ◌+◌, ◌<◌, ◌≤◌, sym, subst, arith}
use Rattle.std.proofs.lemmas.Bool.Decides.{nat_tests}
use Rattle.residue_sums.specs.Residues.{IsUnit}
use Rattle.residue_sums.specs.Tables.{Table, transpose}
use Rattle.residue_sums.proofs.Congruence.{Cong-from_mod, Cong-sym, Cong-trans}
use Rattle.structure_rules.specs.declared.Structure.TheVariants.{UnitLower, Upper, Diagonal}
use Rattle.structure_rules.specs.Structures.{view}
use Rattle.matrix_algebra.specs.Factors.{IsLuBadPivot, IsLdlBadPivot}
use Rattle.matrix_algebra.proofs.Packed.{IsUnitLower-view, IsUpper-view, IsDiagonal-view}
use Rattle.matrix_algebra.proofs.Products.{product-times_left}
use Rattle.matrix_algebra.proofs.LuFactors.{lu_bad_pivot_unique}
use Rattle.matrix_algebra.proofs.LdlFactors.{ldl_bad_pivot_unique}
use Rattle.equation.specs.Pivots.{IsBadForLu, IsBadForLdl}

upper-diagonal : (u : Table) (i : ℕ) → view Upper u i i ≡ u i i
upper-diagonal u i = grind (arith, nat_tests)

diagonal-diagonal : (d : Table) (i : ℕ) → view Diagonal d i i ≡ d i i
diagonal-diagonal d i = grind (arith, nat_tests)

pub lu_bad_pivot : (m n : ℕ) (r : Table) (k : ℕ) → k < n → IsBadForLu m r k → IsLuBadPivot m n r k
lu_bad_pivot m n r k within bad = record {
  within = within;
  l = view UnitLower bad.l;
  u = view Upper bad.u;
  factors = record {
    lower = IsUnitLower-view (k + 1) bad.l;
    upper = IsUpper-view (k + 1) bad.u;
    equation = λ i j row col. Cong-sym (Cong-from_mod (sym (bad.product i j (omega (arith, row)) (omega (arith, col)))));
  };
  units = λ i below. subst (λ x. IsUnit m x) (sym (upper-diagonal bad.u i)) (bad.units i below);
  bad = λ unit. bad.bad (subst (λ x. IsUnit m x) (upper-diagonal bad.u k) unit);
}

pub ldl_bad_pivot : (m n : ℕ) (r : Table) (k : ℕ) → k < n → IsBadForLdl m r k → IsLdlBadPivot m n r k
ldl_bad_pivot m n r k within bad = record {
  within = within;
  l = view UnitLower bad.l;
  d = view Diagonal bad.d;
  factors = record {
    lower = IsUnitLower-view (k + 1) bad.l;
    diagonal = IsDiagonal-view (k + 1) bad.d;
    equation = λ i j low row. Cong-trans (Cong-sym (product-times_left m (k + 1) (k + 1) (view UnitLower bad.l) (view Diagonal bad.d) (transpose (view UnitLower bad.l)) i j))
        (Cong-sym (Cong-from_mod (sym (bad.product i j (omega (arith, row)) low))));
  };
  units = λ i below. subst (λ x. IsUnit m x) (sym (diagonal-diagonal bad.d i)) (bad.units i below);
  bad = λ unit. bad.bad (subst (λ x. IsUnit m x) (diagonal-diagonal bad.d k) unit);
}

pub one_lu_bad_pivot : (m n : ℕ) → 2 ≤ m → (r : Table) (k j : ℕ) → k < n → j < n → IsBadForLu m r k → IsBadForLu m r j → k ≡ j
one_lu_bad_pivot m n two r k j k_below j_below k_bad j_bad = lu_bad_pivot_unique m n two r k j (lu_bad_pivot m n r k k_below k_bad) (lu_bad_pivot m n r j j_below j_bad)

pub one_ldl_bad_pivot : (m n : ℕ) → 2 ≤ m → (r : Table) (k j : ℕ) → k < n → j < n → IsBadForLdl m r k → IsBadForLdl m r j → k ≡ j
one_ldl_bad_pivot m n two r k j k_below j_below k_bad j_bad = ldl_bad_pivot_unique m n two r k j (ldl_bad_pivot m n r k k_below k_bad) (ldl_bad_pivot m n r j j_below j_bad)
