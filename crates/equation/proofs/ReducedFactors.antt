-- A leading block with factors modulo m, whose last pivot is no unit, has such factors of residues. So where no place has the first
-- bad pivot of a form that finds factors, no pivot of any factors is bad.
use Rattle.std.proofs.Common.{◌≡◌, ℕ, ◌+◌, ◌%◌, ◌<◌, ◌≤◌, inl, inr, sym, subst, arith}
use Rattle.std.proofs.Math.Nat.{mod-lt}
use Rattle.std.proofs.lemmas.Bool.{cases_order, cases_eq, cases_lt}
use Rattle.residue_sums.specs.Residues.{Cong}
use Rattle.residue_sums.specs.Tables.{Table, product, transpose}
use Rattle.residue_sums.proofs.Congruence.{Cong-from_same, Cong-mod, Cong-sym, Cong-trans, IsUnit-Cong, mod_from_Cong}
use Rattle.structure_rules.specs.declared.Structure.TheVariants.{UnitLower, Upper, Diagonal}
use Rattle.structure_rules.specs.Structures.{view}
use Rattle.structure_rules.proofs.Views.{view-zero}
use Rattle.matrix_algebra.specs.Triangles.{IsUnitLower, IsUpper, IsDiagonal}
use Rattle.matrix_algebra.specs.Factors.{IsLuBadPivot, IsLdlBadPivot}
use Rattle.matrix_algebra.proofs.Packed.{view-unit_lower_below, view-unit_lower_diagonal, view-unit_lower_above, view-upper_above, view-upper_below, view-diagonal_here}
use Rattle.matrix_algebra.proofs.Products.{product-Cong, product-times_left}
use Rattle.equation.specs.Pivots.{HasResidues, IsBadForLu, IsBadForLdl}

-- the table of the residues
abbrev reduced : ℕ → Table → Table
reduced m a i j = a i j % m

HasResidues-reduced : (m : ℕ) (a : Table) → 2 ≤ m → HasResidues m (reduced m a)
HasResidues-reduced m a two i j = mod-lt (a i j) (omega arith)

module _ (m n : ℕ) (a : Table) (i j : ℕ) (row : i < n) (col : j < n) where
  unit_lower-reduced : IsUnitLower n a → Cong m (view UnitLower (reduced m a) i j) (a i j)
  unit_lower-reduced lower = elim (cases_order i j) [
    | inl same ↦ rw (view-unit_lower_diagonal (reduced m a) i j same) (Cong-from_same (sym (subst (λ k. a i k ≡ 1) same (lower.one i row))))
    | inr (inl above) ↦ rw (view-unit_lower_above (reduced m a) i j above) (Cong-from_same (sym (lower.above i j above col)))
    | inr (inr below) ↦ rw (view-unit_lower_below (reduced m a) i j below) (Cong-mod m (a i j))
  ]

  upper-reduced : IsUpper n a → Cong m (view Upper (reduced m a) i j) (a i j)
  upper-reduced upper = elim (cases_lt j i) [
    | inl below ↦ rw (view-upper_below (reduced m a) i j below) (Cong-from_same (sym (upper.below i j below row)))
    | inr above ↦ rw (view-upper_above (reduced m a) i j above) (Cong-mod m (a i j))
  ]

  diagonal-reduced : IsDiagonal n a → Cong m (view Diagonal (reduced m a) i j) (a i j)
  diagonal-reduced diagonal = elim (cases_eq i j) [
    | inl same ↦ rw (view-diagonal_here (reduced m a) i j same) (Cong-mod m (a i j))
    | inr apart ↦ rw (view-zero Diagonal (reduced m a) i j apart) (Cong-from_same (sym (diagonal.apart i j row col apart)))
  ]

module _ (m n : ℕ) (two : 2 ≤ m) (r : Table) (k : ℕ) where
  pub bad_for_lu : ((i j : ℕ) → i < n → j < n → r i j < m) → IsLuBadPivot m n r k → IsBadForLu m r k
  bad_for_lu residues bad = record {
    l = reduced m bad.l;
    u = reduced m bad.u;
    l_residues = HasResidues-reduced m bad.l two;
    u_residues = HasResidues-reduced m bad.u two;
    product = λ i j row col.
        let i_row : i < k + 1 = omega arith in
        let j_col : j < k + 1 = omega arith in
        sym (mod_from_Cong (residues i j (omega (arith, bad.within)) (omega (arith, bad.within)))
        (Cong-sym (Cong-trans
        (product-Cong (k + 1) (view UnitLower (reduced m bad.l)) (view Upper (reduced m bad.u)) bad.l bad.u i j m
        (λ p below. unit_lower-reduced m (k + 1) bad.l i p i_row below bad.factors.lower)
        (λ p below. upper-reduced m (k + 1) bad.u p j below j_col bad.factors.upper))
        (bad.factors.equation i j i_row j_col))));
    units = λ i below. IsUnit-Cong m (bad.u i i) (reduced m bad.u i i) (Cong-sym (Cong-mod m (bad.u i i))) (bad.units i below);
    bad = λ unit. bad.bad (IsUnit-Cong m (reduced m bad.u k k) (bad.u k k) (Cong-mod m (bad.u k k)) unit);
  }

  pub bad_for_ldl : ((i j : ℕ) → j ≤ i → i < n → r i j < m) → IsLdlBadPivot m n r k → IsBadForLdl m r k
  bad_for_ldl residues bad = record {
    l = reduced m bad.l;
    d = reduced m bad.d;
    l_residues = HasResidues-reduced m bad.l two;
    d_residues = HasResidues-reduced m bad.d two;
    product = λ i j row low.
        let i_row : i < k + 1 = omega arith in
        let j_col : j < k + 1 = omega arith in
        let l : Table = view UnitLower (reduced m bad.l) in
        let d : Table = view Diagonal (reduced m bad.d) in
        let l_is : (a b : ℕ) → a < k + 1 → b < k + 1 → Cong m (l a b) (bad.l a b) = λ a b a_row b_col. unit_lower-reduced m (k + 1) bad.l a b a_row b_col bad.factors.lower in
        let d_is : (a b : ℕ) → a < k + 1 → b < k + 1 → Cong m (d a b) (bad.d a b) = λ a b a_row b_col. diagonal-reduced m (k + 1) bad.d a b a_row b_col bad.factors.diagonal in
        sym (mod_from_Cong (residues i j low (omega (arith, bad.within)))
        (Cong-sym (Cong-trans (product-times_left m (k + 1) (k + 1) l d (transpose l) i j) (Cong-trans
        (product-Cong (k + 1) (product (k + 1) l d) (transpose l) (product (k + 1) bad.l bad.d) (transpose bad.l) i j m
        (λ p below. product-Cong (k + 1) l d bad.l bad.d i p m (λ q inner. l_is i q i_row inner) (λ q inner. d_is q p inner below))
        (λ p below. l_is j p j_col below))
        (bad.factors.equation i j low i_row)))));
    units = λ i below. IsUnit-Cong m (bad.d i i) (reduced m bad.d i i) (Cong-sym (Cong-mod m (bad.d i i))) (bad.units i below);
    bad = λ unit. bad.bad (IsUnit-Cong m (reduced m bad.d k k) (bad.d k k) (Cong-mod m (bad.d k k)) unit);
  }

-- where no leading block has its first bad pivot last
module _ (m n : ℕ) (two : 2 ≤ m) (r : Table) where
  pub no_bad_lu : ((i j : ℕ) → i < n → j < n → r i j < m) → ((k : ℕ) → k < n → ¬ (IsBadForLu m r k)) → (k : ℕ) → ¬ (IsLuBadPivot m n r k)
  no_bad_lu residues none k bad = none k bad.within (bad_for_lu m n two r k residues bad)

  pub no_bad_ldl : ((i j : ℕ) → j ≤ i → i < n → r i j < m) → ((k : ℕ) → k < n → ¬ (IsBadForLdl m r k)) → (k : ℕ) → ¬ (IsLdlBadPivot m n r k)
  no_bad_ldl residues none k bad = none k bad.within (bad_for_ldl m n two r k residues bad)
