-- Of a matrix after a statement it can be told whether each entry is as it has to be, or which is the first that isn't; and that one is.
use Rattle.std.proofs.Common.{◌≡◌, ℕ, ◌<◌, ◌⊎◌, List, inl, inr, sym}
use Rattle.std.proofs.lemmas.Bool.{cases_eq, cases_order}
use Rattle.residue_sums.specs.Grids.{Grid, entry}
use Rattle.structure_rules.proofs.Views.{IsZero-or_inside}
use Rattle.operation_spec.specs.declared.operation.Operation.{Operation}
use Rattle.equation.specs.declared.job.Place.{Place}
use Rattle.equation.specs.Equations.{Satisfies, left_side, right_side}
use Rattle.equation.specs.Pivots.{IsBefore}
use Rattle.equation.specs.Residuals.{HoldsAt, IsFirstResidual}
use Rattle.equation.proofs.FirstNumbers.{HasFirst, first_or_none}

module _ (m : ℕ) (op : Operation) (knowns : List Grid) (work after : Grid) where
  abbrev Right : ℕ → ℕ → Type 0
  Right i j = HoldsAt m op knowns work after i j

  right_or_not : (i j : ℕ) → Right i j ⊎ ¬ (Right i j)
  right_or_not i j = elim (IsZero-or_inside op.work.structure i j) [
    | inl none ↦ elim (cases_eq (entry after i j) (entry work i j)) [
      | inl same ↦ inl (record { equation = λ inside. absurd (inside none); others = λ outside. same })
      | inr differs ↦ inr (λ right. differs (right.others none))
    ]
    | inr inside ↦ elim (cases_eq (left_side m op knowns after i j) (right_side m op knowns work i j)) [
      | inl same ↦ inl (record { equation = λ within. same; others = λ outside. absurd (inside outside) })
      | inr differs ↦ inr (λ right. differs (right.equation inside))
    ]
  ]

  not_wrong : (i j : ℕ) → ¬ (¬ (Right i j)) → Right i j
  not_wrong i j good = elim (right_or_not i j) [ inl right ↦ right | inr wrong ↦ absurd (good wrong) ]

  abbrev HasWrong : ℕ → Type 0
  HasWrong i = HasFirst (λ j. ¬ (Right i j)) work.cols

  row_wrong_or_right : (i : ℕ) → HasWrong i ⊎ ((j : ℕ) → j < work.cols → Right i j)
  row_wrong_or_right i = elim (first_or_none (λ j. ¬ (Right i j)) tell work.cols) [
    | inl found ↦ inl found
    | inr none ↦ inr (λ j below. not_wrong i j (none j below))
  ]
    where
      tell : (j : ℕ) → ((k : ℕ) → k < j → ¬ (¬ (Right i k))) → ¬ (Right i j) ⊎ ¬ (¬ (Right i j))
      tell j earlier = elim (right_or_not i j) [ inl right ↦ inr (λ wrong. wrong right) | inr wrong ↦ inl wrong ]

  right_row : (i : ℕ) → ¬ (HasWrong i) → (j : ℕ) → j < work.cols → Right i j
  right_row i good = elim (row_wrong_or_right i) [ inl wrong ↦ absurd (good wrong) | inr right ↦ right ]

  pub residual_or_right : ((place : Place) × IsFirstResidual m op knowns work after place) ⊎ ((i j : ℕ) → i < work.rows → j < work.cols → Right i j)
  residual_or_right = elim (first_or_none HasWrong tell work.rows) [
    | inl found ↦ inl (
      record { row = found.number; col = found.such.number },
      record {
        row = found.within;
        col = found.such.within;
        fails = found.such.such;
        first = λ i j row col before. earlier found i j col before;
      },
    )
    | inr none ↦ inr (λ i j row col. right_row i (none i row) j col)
  ]
    where
      tell : (i : ℕ) → ((k : ℕ) → k < i → ¬ (HasWrong k)) → HasWrong i ⊎ ¬ (HasWrong i)
      tell i before = elim (row_wrong_or_right i) [ inl wrong ↦ inl wrong | inr right ↦ inr (λ wrong. wrong.such (right wrong.number wrong.within)) ]

      earlier : (found : HasFirst HasWrong work.rows) (i j : ℕ) → j < work.cols → IsBefore i j (record { row = found.number; col = found.such.number }) → Right i j
      earlier found i j col (inl above) = right_row i (found.first i above) j col
      earlier found i j col (inr here) = rw here.0 (not_wrong found.number j (found.such.first j here.1))

  -- ---- one place, and none of a matrix that satisfies the equation

  same_place : (p q : Place) → p.row ≡ q.row → p.col ≡ q.col → p ≡ q
  same_place p q row col = λ x. record { row = row x; col = col x }

  pub one_residual : (p q : Place) → IsFirstResidual m op knowns work after p → IsFirstResidual m op knowns work after q → p ≡ q
  one_residual p q p_is q_is = elim (cases_order p.row q.row) [
    | inl row ↦ elim (cases_order p.col q.col) [
      | inl col ↦ same_place p q row col
      | inr (inl less) ↦ absurd (p_is.fails (q_is.first p.row p.col p_is.row p_is.col (inr (row, less))))
      | inr (inr less) ↦ absurd (q_is.fails (p_is.first q.row q.col q_is.row q_is.col (inr (sym row, less))))
    ]
    | inr (inl less) ↦ absurd (p_is.fails (q_is.first p.row p.col p_is.row p_is.col (inl less)))
    | inr (inr less) ↦ absurd (q_is.fails (p_is.first q.row q.col q_is.row q_is.col (inl less)))
  ]

  pub none_satisfies : (place : Place) → IsFirstResidual m op knowns work after place → ¬ (Satisfies m op knowns work after)
  none_satisfies place is satisfied = is.fails (record {
    equation = satisfied.equation place.row place.col is.row is.col;
    others = satisfied.others place.row place.col is.row is.col;
  })
