-- Each kernel has one value at most, where its pivots are units.
use Rattle.std.proofs.Common.{◌≡◌, ℕ, ◌*◌, ◌+◌, ◌-◌, ◌%◌, ◌<◌, ◌≤◌, Bool, true, false, sym, refl, ◌∙◌, arith}
use Rattle.residue_sums.specs.Residues.{Cong, IsUnit}
use Rattle.residue_sums.specs.Tables.{Table, oriented, product, times, transpose}
use Rattle.residue_sums.specs.Grids.{Grid, entry}
use Rattle.residue_sums.proofs.Congruence.{Cong-cancel, Cong-from_difference, Cong-from_mod, Cong-mod, Cong-sym, Cong-trans, IsUnit-Cong}
use Rattle.structure_rules.specs.declared.Structure.{Structure}
use Rattle.structure_rules.specs.declared.Structure.TheVariants as structures
use Rattle.structure_rules.specs.Structures.{view, IsTriangular, IsWorkStructure}
use Rattle.matrix_algebra.proofs.Packed.{view-diagonal_here}
use Rattle.matrix_algebra.proofs.Products.{product-times_left}
use Rattle.matrix_algebra.proofs.Solutions.{AgreeOn, left_unique, right_unique, sylvester_plus_unique, sylvester_minus_unique}
use Rattle.matrix_algebra.proofs.Triangles.{IsTriangle-view, IsTriangle-view_transposed, IsUnit-view_one}
use Rattle.equation.specs.Kernels.{IsValue, combined, IsSolvedLeft, IsSolvedRight, IsSolvedRightLdl, IsSolvedSylvester, IsFactoredLu, IsFactoredLdl}
use Rattle.equation.specs.Pivots.{IsBadForLu, IsBadForLdl}
use Rattle.equation.proofs.OneValue.{one_value}
use Rattle.equation.proofs.PackedFactors.{PacksLu, one_packed_lu, PacksLdl, one_packed_ldl}
use Rattle.equation.proofs.SylvesterForms.{sum_solved, difference_solved}

-- an equation between an exact number modulo m and a residue, as a congruence
solved : (m a r : ℕ) → a % m ≡ r → Cong m a r
solved m a r e = Cong-sym (Cong-from_mod (sym e))

-- ---- solves with one triangular factor

module _ (m : ℕ) (two : 2 ≤ m) (s k : Structure) (work : IsWorkStructure s) (triangular : IsTriangular k) (primed : Bool) (a : Table) (old x y : Grid) where
  abbrev t : Table
  t = oriented primed (view k a)

  pub one_solved_left : ((i : ℕ) → i < old.rows → IsUnit m (t i i)) → IsSolvedLeft m s t old x → IsSolvedLeft m s t old y → x ≡ y
  one_solved_left units x_is y_is = one_value m s _ _ old x y x_is y_is
      (left_unique m old.rows old.cols two s work t _ (IsTriangle-view primed k old.rows a triangular) units (entry old) (entry x) (entry y)
      (λ i j within. solved m _ _ (x_is.equation i j within.row within.col within.inside))
      (λ i j within. solved m _ _ (y_is.equation i j within.row within.col within.inside)))

  pub one_solved_right : ((j : ℕ) → j < old.cols → IsUnit m (t j j)) → IsSolvedRight m s t old x → IsSolvedRight m s t old y → x ≡ y
  one_solved_right units x_is y_is = one_value m s _ _ old x y x_is y_is
      (right_unique m old.rows old.cols two s work t _ (IsTriangle-view_transposed primed k old.cols a triangular) units (entry old) (entry x) (entry y)
      (λ i j within. solved m _ _ (x_is.equation i j within.row within.col within.inside))
      (λ i j within. solved m _ _ (y_is.equation i j within.row within.col within.inside)))

-- ---- the solve with D * L': X * D is found first, then X

module _ (m : ℕ) (two : 2 ≤ m) (f : Table) (old x y : Grid) (units : (j : ℕ) → j < old.cols → IsUnit m (f j j)) where
  abbrev lower : Table
  lower = oriented true (view structures.UnitLower f)

  abbrev scaled : Table → Table
  scaled a = times m old.cols a (view structures.Diagonal f)

  one_scaled : IsSolvedRightLdl m f old x → IsSolvedRightLdl m f old y → AgreeOn m old.rows old.cols structures.General (scaled (entry x)) (scaled (entry y))
  one_scaled x_is y_is = right_unique m old.rows old.cols two structures.General tt lower _
      (IsTriangle-view_transposed true structures.UnitLower old.cols f tt) (λ j col. IsUnit-view_one m structures.UnitLower f j j two refl)
      (entry old) (scaled (entry x)) (scaled (entry y))
      (λ i j within. solved m _ _ (x_is.equation i j within.row within.col within.inside))
      (λ i j within. solved m _ _ (y_is.equation i j within.row within.col within.inside))

  pub one_solved_right_ldl : IsSolvedRightLdl m f old x → IsSolvedRightLdl m f old y → x ≡ y
  one_solved_right_ldl x_is y_is = one_value m structures.General _ _ old x y x_is y_is
      (right_unique m old.rows old.cols two structures.General tt (view structures.Diagonal f) _
      (IsTriangle-view_transposed false structures.Diagonal old.cols f tt) (λ j col. rw (view-diagonal_here f j j refl) (units j col))
      (scaled (entry x)) (entry x) (entry y)
      (λ i j within. Cong-sym (Cong-mod m (product old.cols (entry x) (view structures.Diagonal f) i j)))
      (λ i j within. Cong-trans (Cong-sym (Cong-mod m (product old.cols (entry y) (view structures.Diagonal f) i j))) (Cong-sym (one_scaled x_is y_is i j within))))

-- ---- the solve with two triangular factors

module _ (m : ℕ) (two : 2 ≤ m) (k l : Structure) (k_triangular : IsTriangular k) (l_triangular : IsTriangular l) (primed second_primed : Bool) (a b : Table)
    (old x y : Grid) where
  abbrev first : Table
  first = oriented primed (view k a)

  abbrev second : Table
  second = oriented second_primed (view l b)

  abbrev pairs : Bool → Table
  pairs negative = combined m negative (λ i j. first i i) (λ i j. second j j)

  one_solved_plus : ((i j : ℕ) → i < old.rows → j < old.cols → IsUnit m (pairs false i j))
      → IsSolvedSylvester m false first second old x → IsSolvedSylvester m false first second old y → x ≡ y
  one_solved_plus units x_is y_is = one_value m structures.General _ _ old x y x_is y_is
      (sylvester_plus_unique m old.rows old.cols two structures.General tt first second _ _
      (IsTriangle-view primed k old.rows a k_triangular) (IsTriangle-view_transposed second_primed l old.cols b l_triangular)
      (λ i j row col. IsUnit-Cong m _ (first i i + second j j) (Cong-mod m (first i i + second j j)) (units i j row col))
      (entry old) (entry x) (entry y)
      (λ i j within. sum_solved m _ _ _ (sym (x_is.equation i j within.row within.col within.inside)))
      (λ i j within. sum_solved m _ _ _ (sym (y_is.equation i j within.row within.col within.inside))))

  one_solved_minus : ((j : ℕ) → j < old.cols → second j j < m) → ((i j : ℕ) → i < old.rows → j < old.cols → IsUnit m (pairs true i j))
      → IsSolvedSylvester m true first second old x → IsSolvedSylvester m true first second old y → x ≡ y
  one_solved_minus residues units x_is y_is = one_value m structures.General _ _ old x y x_is y_is
      (sylvester_minus_unique m old.rows old.cols two structures.General tt first second _ _
      (IsTriangle-view primed k old.rows a k_triangular) (IsTriangle-view_transposed second_primed l old.cols b l_triangular)
      (pairs true)
      (λ i j row col. Cong-from_difference (second j j) (first i i + (m - second j j)) refl (let below : second j j < m = residues j col in omega arith))
      units
      (entry old) (entry x) (entry y)
      (λ i j within. difference_solved m _ _ _ (omega arith) (sym (x_is.equation i j within.row within.col within.inside)))
      (λ i j within. difference_solved m _ _ _ (omega arith) (sym (y_is.equation i j within.row within.col within.inside))))

  pub one_solved_sylvester : (negative : Bool) → ((j : ℕ) → j < old.cols → second j j < m)
      → ((i j : ℕ) → i < old.rows → j < old.cols → IsUnit m (pairs negative i j))
      → IsSolvedSylvester m negative first second old x → IsSolvedSylvester m negative first second old y → x ≡ y
  one_solved_sylvester false residues units x_is y_is = one_solved_plus units x_is y_is
  one_solved_sylvester true residues units x_is y_is = one_solved_minus residues units x_is y_is

-- ---- factors

module _ (m : ℕ) (two : 2 ≤ m) (old x y : Grid) (square : old.rows ≡ old.cols) where
  pub one_factored_lu : ((k : ℕ) → k < old.rows → ¬ (IsBadForLu m (entry old) k)) → IsFactoredLu m old x → IsFactoredLu m old y → x ≡ y
  one_factored_lu none x_is y_is = one_value m structures.General _ _ old x y x_is y_is
      (λ i j within. one_packed_lu m old.rows two (entry old) none (entry x) (entry y) (packs x x_is) (packs y y_is) i j within.row (rw square within.col))
    where
      packs : (w : Grid) → IsFactoredLu m old w → PacksLu m old.rows (entry old) (entry w)
      packs w is = record { equation = λ i j row col. sym (is.equation i j row (rw (sym square) col) (λ outside. outside)) }

  pub one_factored_ldl : ((k : ℕ) → k < old.rows → ¬ (IsBadForLdl m (entry old) k)) → IsFactoredLdl m old x → IsFactoredLdl m old y → x ≡ y
  one_factored_ldl none x_is y_is = one_value m structures.Lower _ _ old x y x_is y_is
      (λ i j within. one_packed_ldl m old.rows two (entry old) none (entry x) (entry y) (packs x x_is) (packs y y_is)
      i j (let low : ¬ (i < j) = within.inside in omega arith) within.row)
    where
      packs : (w : Grid) → IsFactoredLdl m old w → PacksLdl m old.rows (entry old) (entry w)
      packs w is = record {
        equation = λ i j low row.
            let col : j < old.rows = omega arith in
            let both = product-times_left m old.rows old.rows (view structures.UnitLower (entry w)) (view structures.Diagonal (entry w))
            (transpose (view structures.UnitLower (entry w))) i j in
            sym (is.equation i j row (rw (sym square) col) (λ above. omega arith)) ∙ both.same;
      }

-- ---- inverses

one_inverse : (m a p q : ℕ) → (a * p) % m ≡ 1 → (a * q) % m ≡ 1 → Cong m p q
one_inverse m a p q p_is q_is = Cong-cancel a p (Cong-sym (Cong-from_mod (sym p_is))) (Cong-trans (solved m _ _ p_is) (Cong-sym (solved m _ _ q_is)))

pub one_inverted : (m : ℕ) (pivots : Table) (old x y : Grid) → IsValue m structures.General (λ a i j. (pivots i j * a i j) % m) (λ i j. 1) old x
    → IsValue m structures.General (λ a i j. (pivots i j * a i j) % m) (λ i j. 1) old y → x ≡ y
one_inverted m pivots old x y x_is y_is = one_value m structures.General _ _ old x y x_is y_is
    (λ i j within. one_inverse m (pivots i j) (entry x i j) (entry y i j)
    (x_is.equation i j within.row within.col within.inside) (y_is.equation i j within.row within.col within.inside))
