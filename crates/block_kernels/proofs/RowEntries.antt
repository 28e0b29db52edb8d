-- Numbers that were lent as one row: what they are once the part is gone, and that units give their inverses.
use Rattle.std.proofs.Common.{◌≡◌, ℕ, ◌*◌, ◌<◌, ◌↔◌, List, length, refl, ◌∙◌, arith}
use Rattle.std.specs.Prelude.{OnOk, Ok, Err}
use Rattle.std.specs.declared.result.Result.{Result}
use Rattle.residue_sums.specs.Residues.{IsUnit}
use Rattle.residue_sums.specs.Tables.{Table}
use Rattle.residue_sums.specs.Grids.{Grid}
use Rattle.matrix_parts.specs.declared.part_mut.PartMut.{PartMut}
use Rattle.matrix_parts.specs.Lent.{grid_of, IsKept}
use Rattle.matrix_parts.specs.Rects.{rect}
use Rattle.matrix_parts.proofs.Rects.{rect-whole}
use Rattle.equation.specs.Kernels.{AreInverses}
use Rattle.equation.specs.Pivots.{IsFirstOnDiagonal}
use Rattle.kernel_lib.specs.BadPivot.{BadPivot}
use Rattle.kernel_lib.specs.BadPlaces.{place_of}
use Rattle.kernel_lib.specs.Conditions.{HasInverses}

-- a rectangle that is all of the numbers
all_numbers : (xs ys : List ℕ) (first stride rows cols r c : ℕ) → xs ≡ ys → first ≡ 0 → stride ≡ cols → r ≡ rows → c ≡ cols → length xs ≡ rows * cols
    → rect ys first stride r c ≡ record { rows = rows; cols = cols; entries = xs }
all_numbers xs ys first stride rows cols r c same first_is stride_is rows_are cols_are full =
    rw (← same, first_is, stride_is, rows_are, cols_are) (rect-whole xs rows cols full)

-- a part that was made of all of the numbers, and then written
pub grid-back : (xs : List ℕ) (rows cols : ℕ) (made written : PartMut) → made.first ≡ 0 → made.stride ≡ cols → made.rows ≡ rows → made.cols ≡ cols → IsKept made written
    → xs ≡ written.entries.now → length xs ≡ rows * cols → grid_of written ≡ record { rows = rows; cols = cols; entries = xs }
grid-back xs rows cols made written first stride rows_are cols_are kept same full =
    all_numbers xs written.entries.now written.first written.stride rows cols written.rows written.cols same
    (kept.first ∙ first) (kept.stride ∙ stride) (kept.rows ∙ rows_are) (kept.cols ∙ cols_are) full

-- inverses that were written into one row
pub HasInverses-written : (m n : ℕ) (t : Table) (old new : Grid) → old.rows ≡ 1 → old.cols ≡ n → AreInverses m t old new → HasInverses m n t new
HasInverses-written m n t old new one_row cols are = record {
  one_row = are.rows ∙ one_row;
  cols = are.cols ∙ cols;
  residues = are.residues;
  inverts = λ i below. are.equation 0 i (omega arith) (omega arith) (λ outside. outside);
}

-- where all are units, none is named
pub none_named : {P : Type 0} (m n : ℕ) (pivot : ℕ → ℕ) (result : Result (Unit {0}) BadPivot)
    → ((place : BadPivot) → (result ≡ Err place) ↔ IsFirstOnDiagonal m n pivot (place_of place)) → ((i : ℕ) → i < n → IsUnit m (pivot i)) → OnOk result P → P
none_named m n pivot (Ok done) exact units is = is
none_named m n pivot (Err place) exact units is = let first = (exact place).0 refl in absurd (first.bad (units place.row first.within))
