-- Two values of one old block that agree on the entries of the structure are equal.
use Rattle.std.proofs.Common.{◌≡◌, ℕ, ◌<◌, inl, inr, sym, ◌∙◌, refl}
use Rattle.residue_sums.specs.Tables.{Table}
use Rattle.residue_sums.specs.Grids.{Grid, entry}
use Rattle.residue_sums.proofs.Congruence.{Cong-from_same, same_from_Cong}
use Rattle.residue_sums.proofs.Grids.{same_from_HasEntries, entry_below}
use Rattle.structure_rules.specs.declared.Structure.{Structure}
use Rattle.structure_rules.proofs.Views.{IsZero-or_inside}
use Rattle.matrix_algebra.proofs.Solutions.{AgreeOn}
use Rattle.equation.specs.Kernels.{IsValue}

module _ (m : ℕ) (s : Structure) (left : Table → Table) (right : Table) (old x y : Grid)
    (x_is : IsValue m s left right old x) (y_is : IsValue m s left right old y) where
  pub one_value : AgreeOn m old.rows old.cols s (entry x) (entry y) → x ≡ y
  one_value agree = same_from_HasEntries x y (entry y) x_is.full y_is.full (x_is.rows ∙ sym y_is.rows) (x_is.cols ∙ sym y_is.cols)
      (λ i j row col. each i j (rw (sym x_is.rows) row) (rw (sym x_is.cols) col)) (λ i j row col. refl)
    where
      each : (i j : ℕ) → i < old.rows → j < old.cols → entry x i j ≡ entry y i j
      each i j row col = elim (IsZero-or_inside s i j) [
        | inl none ↦ x_is.others i j row col none ∙ sym (y_is.others i j row col none)
        | inr inside ↦ same_from_Cong
            (entry_below m x i j x_is.full x_is.residues (rw x_is.rows row) (rw x_is.cols col))
            (entry_below m y i j y_is.full y_is.residues (rw y_is.rows row) (rw y_is.cols col))
            (agree i j (record { row = row; col = col; inside = inside }))
      ]

-- what is written as it stands has one value
pub one_written : (m : ℕ) (s : Structure) (right : Table) (old x y : Grid)
    → IsValue m s (λ a. a) right old x → IsValue m s (λ a. a) right old y → x ≡ y
one_written m s right old x y x_is y_is = one_value m s (λ a. a) right old x y x_is y_is
    (λ i j within. Cong-from_same (x_is.equation i j within.row within.col within.inside ∙ sym (y_is.equation i j within.row within.col within.inside)))
