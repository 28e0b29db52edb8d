-- A block that was solved with L' and scaled by the inverses of D is solved with D * L'.
use Rattle.std.proofs.Common.{◌≡◌, ℕ, ◌*◌, ◌%◌, ◌<◌, ◌≤◌, refl, sym, ap, ◌∙◌, arith}
use Rattle.std.proofs.Math.Nat.{mod-eq_of_lt, mod-lt}
use Rattle.residue_sums.specs.Residues.{Cong}
use Rattle.residue_sums.specs.Tables.{Table, times, transpose}
use Rattle.residue_sums.specs.Grids.{Grid, entry}
use Rattle.residue_sums.proofs.Congruence.{Cong-sym, Cong-scale, Cong-add, Cong-by, Cong-from_mod, mod_from_Cong}
use Rattle.residue_sums.proofs.Sums.{sum_below-only}
use Rattle.structure_rules.specs.declared.Structure.TheVariants.{General, Diagonal, UnitLower}
use Rattle.structure_rules.specs.Structures.{view}
use Rattle.structure_rules.proofs.Views.{view-zero}
use Rattle.matrix_algebra.proofs.Products.{product-same}
use Rattle.matrix_parts.specs.declared.part_mut.PartMut.{PartMut}
use Rattle.matrix_parts.specs.Lent.{grid_of}
use Rattle.equation.specs.Kernels.{IsSolvedRight, IsSolvedRightLdl}
use Rattle.operand_lines.proofs.PartValues.{IsValue-part}

diagonal-here : (f : Table) (k : ℕ) → view Diagonal f k k ≡ f k k
diagonal-here f k = grind arith

-- x times a diagonal
times-diagonal : (m n : ℕ) (x f : Table) (i k : ℕ) → k < n → times m n x (view Diagonal f) i k ≡ (x i k * f k k) % m
times-diagonal m n x f i k below =
    ap (λ (v : ℕ). v % m) (sum_below-only (λ l. x i l * view Diagonal f l k) n k below (λ l col apart. rw (view-zero Diagonal f l k apart) (omega arith)) ∙ ap (λ (v : ℕ). x i k * v) (diagonal-here f k))

-- y scaled by the inverse v of p, times p
unscaled : (m y x v p : ℕ) → 2 ≤ m → y < m → x ≡ (y * v) % m → (p * v) % m ≡ 1 → (x * p) % m ≡ y
unscaled m y x v p two below scaled inverts =
    sym (mod_from_Cong below (Cong-by (Cong-sym (Cong-add (Cong-scale p (Cong-from_mod scaled)) (Cong-scale y one))) (omega arith)))
  where
    one : Cong m (p * v) 1
    one = record { same = inverts ∙ sym (mod-eq_of_lt two) }

pub ldl_value : (m : ℕ) (f : Table) (old mid : Grid) (p : PartMut) (v : ℕ → ℕ) → 2 ≤ m → p.rows ≡ old.rows → p.cols ≡ old.cols
    → ((k : ℕ) → k < old.cols → (f k k * v k) % m ≡ 1)
    → ((i j : ℕ) → i < old.rows → j < old.cols → entry mid i j < m)
    → IsSolvedRight m General (transpose (view UnitLower f)) old mid
    → ((i j : ℕ) → i < old.rows → j < old.cols → entry (grid_of p) i j ≡ (entry mid i j * v j) % m)
    → IsSolvedRightLdl m f old (grid_of p)
ldl_value m f old mid p v two rows cols inverts residues solved scaled =
    IsValue-part m General (λ x. times m old.cols (times m old.cols x (view Diagonal f)) (transpose (view UnitLower f))) (entry old) old p rows cols
    (λ i j row col. rw (scaled i j row col) (mod-lt (entry mid i j * v j) (omega arith)))
    (λ i j row col inner.
    ap (λ (q : ℕ). q % m) (product-same old.cols (times m old.cols (entry (grid_of p)) (view Diagonal f)) (transpose (view UnitLower f)) (entry mid) (transpose (view UnitLower f)) i j
    (λ k below. times-diagonal m old.cols (entry (grid_of p)) f i k below ∙ unscaled m (entry mid i k) (entry (grid_of p) i k) (v k) (f k k) two (residues i k row below) (scaled i k row below) (inverts k below))
    (λ k below. refl))
    ∙ solved.equation i j row col (λ h. h))
    (λ i j row col out. absurd out)
