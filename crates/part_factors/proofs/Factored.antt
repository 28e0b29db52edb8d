-- What the kernels that factor promise, from the columns that they found. Cited by these kernels.
use Rattle.std.proofs.Common.{◌≡◌, ℕ, ◌<◌, ◌≤◌, inr, refl, sym, arith}
use Rattle.residue_sums.specs.Tables.{transpose}
use Rattle.residue_sums.specs.Grids.{Grid, IsFull, AreResidues, entry}
use Rattle.residue_sums.proofs.Grids.{entry_below}
use Rattle.residue_sums.proofs.Congruence.{Cong-trans, Cong-sym, Cong-from_same, IsUnit-Cong, mod_from_Cong}
use Rattle.structure_rules.specs.declared.Structure.TheVariants.{UnitLower, Upper, Diagonal}
use Rattle.structure_rules.specs.Structures.{view}
use Rattle.matrix_algebra.proofs.Packed.{view-upper_above, view-diagonal_here}
use Rattle.matrix_algebra.proofs.Products.{product-times_left}
use Rattle.matrix_algebra.proofs.LuFactors.{no_lu_bad_pivot}
use Rattle.matrix_algebra.proofs.LdlFactors.{no_ldl_bad_pivot}
use Rattle.equation.specs.Kernels.{IsFactoredLu, IsFactoredLdl}
use Rattle.equation.specs.Pivots.{IsBadForLu, IsBadForLdl}
use Rattle.equation.proofs.FactorPivots.{lu_bad_pivot, ldl_bad_pivot}
use Rattle.equation.proofs.ReducedFactors.{bad_for_lu, bad_for_ldl}
use Rattle.part_factors.specs.declared.factoring.FactorKind.TheVariants.{Lu, Ldl}
use Rattle.part_factors.specs.ColumnFactors.{AreRowsFound, IsStoppedAt}
use Rattle.part_factors.proofs.FoundFactors.{IsLu-found, IsLdl-found, IsLuBadPivot-found, IsLdlBadPivot-found}

module _ (m : ℕ) (old new : Grid) (two : 2 ≤ m) (square : old.rows ≡ old.cols) (full : IsFull old) (residues : AreResidues m old) where
  below : (i j : ℕ) → i < old.rows → j < old.rows → entry old i j < m
  below i j row col = entry_below m old i j full residues row (omega arith)

  pub IsFactoredLu-found : new.rows ≡ old.rows → new.cols ≡ old.cols → IsFull new → AreResidues m new
      → AreRowsFound m old.rows Lu old.rows 0 old.rows (entry old) (entry new) → IsFactoredLu m old new
  IsFactoredLu-found rows cols new_full new_residues found = record {
    rows = rows;
    cols = cols;
    full = new_full;
    residues = new_residues;
    equation = λ i j row col inside. sym (mod_from_Cong (below i j row (omega arith))
        (Cong-sym ((IsLu-found m old.rows (entry old) (entry new) found).equation i j row (omega arith))));
    others = λ i j row col none. absurd none;
  }

  pub no_bad_for_lu : AreRowsFound m old.rows Lu old.rows 0 old.rows (entry old) (entry new) → (k : ℕ) → k < old.rows → ¬ (IsBadForLu m (entry old) k)
  no_bad_for_lu found k within bad =
      no_lu_bad_pivot m old.rows two (entry old) (view UnitLower (entry new)) (view Upper (entry new)) (IsLu-found m old.rows (entry old) (entry new) found)
      (λ i row. IsUnit-Cong m (entry new i i) (view Upper (entry new) i i) (Cong-from_same (sym (view-upper_above (entry new) i i (omega arith)))) (found.units i row (omega arith) row))
      k (lu_bad_pivot m old.rows (entry old) k within bad)

  pub bad_for_lu_found : (k : ℕ) → IsStoppedAt m old.rows Lu 0 k (entry old) (entry new) → IsBadForLu m (entry old) k
  bad_for_lu_found k stopped = bad_for_lu m old.rows two (entry old) k below (IsLuBadPivot-found m old.rows k (entry old) (entry new) stopped)

  pub IsFactoredLdl-found : new.rows ≡ old.rows → new.cols ≡ old.cols → IsFull new → AreResidues m new
      → AreRowsFound m old.rows Ldl old.rows 0 old.rows (entry old) (entry new) → IsFactoredLdl m old new
  IsFactoredLdl-found rows cols new_full new_residues found = record {
    rows = rows;
    cols = cols;
    full = new_full;
    residues = new_residues;
    equation = λ i j row col inside. sym (mod_from_Cong (below i j row (omega arith))
        (Cong-sym (Cong-trans (product-times_left m old.rows old.rows (view UnitLower (entry new)) (view Diagonal (entry new)) (transpose (view UnitLower (entry new))) i j)
        ((IsLdl-found m old.rows (entry old) (entry new) found).equation i j (omega (arith, inside)) row))));
    others = λ i j row col zero. found.others i j row (omega arith) (inr (inr (inr zero)));
  }

  pub no_bad_for_ldl : AreRowsFound m old.rows Ldl old.rows 0 old.rows (entry old) (entry new) → (k : ℕ) → k < old.rows → ¬ (IsBadForLdl m (entry old) k)
  no_bad_for_ldl found k within bad =
      no_ldl_bad_pivot m old.rows two (entry old) (view UnitLower (entry new)) (view Diagonal (entry new)) (IsLdl-found m old.rows (entry old) (entry new) found)
      (λ i row. IsUnit-Cong m (entry new i i) (view Diagonal (entry new) i i) (Cong-from_same (sym (view-diagonal_here (entry new) i i refl))) (found.units i row (omega arith) row))
      k (ldl_bad_pivot m old.rows (entry old) k within bad)

  pub bad_for_ldl_found : (k : ℕ) → IsStoppedAt m old.rows Ldl 0 k (entry old) (entry new) → IsBadForLdl m (entry old) k
  bad_for_ldl_found k stopped = bad_for_ldl m old.rows two (entry old) k (λ i j low row. below i j row (omega arith)) (IsLdlBadPivot-found m old.rows k (entry old) (entry new) stopped)
