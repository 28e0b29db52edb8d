-- Of the pivots on a diagonal, and of those in rows and columns, some place has the first bad one, or all are units. So where no
-- place has it, all are units.
use Rattle.std.proofs.Common.{ℕ, ◌<◌, ◌≤◌, ◌⊎◌, inl, inr, refl}
use Rattle.residue_sums.specs.Residues.{IsUnit}
use Rattle.residue_sums.specs.Tables.{Table}
use Rattle.residue_sums.proofs.Inverses.{IsUnit-or_not}
use Rattle.equation.specs.declared.job.Place.{Place}
use Rattle.equation.specs.Pivots.{IsFirstOnDiagonal, IsFirstByRows, IsBefore}
use Rattle.equation.proofs.FirstNumbers.{HasFirst, first_or_none}

module _ (m : ℕ) (two : 2 ≤ m) where
  -- of n pivots there is a first that is no unit
  abbrev HasBad : ℕ → (ℕ → ℕ) → Type 0
  HasBad n pivot = HasFirst (λ k. ¬ (IsUnit m (pivot k))) n

  not_bad : (a : ℕ) → ¬ (¬ (IsUnit m a)) → IsUnit m a
  not_bad a good = elim (IsUnit-or_not m a two) [
    | inl unit ↦ unit
    | inr bad ↦ absurd (good bad)
  ]

  bad_or_units : (n : ℕ) (pivot : ℕ → ℕ) → HasBad n pivot ⊎ ((k : ℕ) → k < n → IsUnit m (pivot k))
  bad_or_units n pivot = elim (first_or_none (λ k. ¬ (IsUnit m (pivot k))) tell n) [
    | inl found ↦ inl found
    | inr none ↦ inr (λ k below. not_bad (pivot k) (none k below))
  ]
    where
      tell : (k : ℕ) → ((j : ℕ) → j < k → ¬ (¬ (IsUnit m (pivot j)))) → ¬ (IsUnit m (pivot k)) ⊎ ¬ (¬ (IsUnit m (pivot k)))
      tell k earlier = elim (IsUnit-or_not m (pivot k) two) [
        | inl unit ↦ inr (λ bad. bad unit)
        | inr bad ↦ inl bad
      ]

  -- ---- on a diagonal

  pub bad_on_diagonal_or_units : (n : ℕ) (pivot : ℕ → ℕ) → ((place : Place) × IsFirstOnDiagonal m n pivot place) ⊎ ((i : ℕ) → i < n → IsUnit m (pivot i))
  bad_on_diagonal_or_units n pivot = elim (bad_or_units n pivot) [
    | inl found ↦ inl (
      record { row = found.number; col = found.number },
      record {
        diagonal = refl;
        within = found.within;
        bad = found.such;
        first = λ i before. not_bad (pivot i) (found.first i before);
      },
    )
    | inr units ↦ inr units
  ]

  -- ---- in rows and columns

  module _ (rows cols : ℕ) (pivot : Table) where
    good_row : (i : ℕ) → ¬ (HasBad cols (pivot i)) → (j : ℕ) → j < cols → IsUnit m (pivot i j)
    good_row i good = elim (bad_or_units cols (pivot i)) [
      | inl bad ↦ absurd (good bad)
      | inr units ↦ units
    ]

    tell_row : (i : ℕ) → ((j : ℕ) → j < i → ¬ (HasBad cols (pivot j))) → HasBad cols (pivot i) ⊎ ¬ (HasBad cols (pivot i))
    tell_row i earlier = elim (bad_or_units cols (pivot i)) [
      | inl bad ↦ inl bad
      | inr units ↦ inr (λ bad. bad.such (units bad.number bad.within))
    ]

    pub bad_by_rows_or_units : ((place : Place) × IsFirstByRows m rows cols pivot place) ⊎ ((i j : ℕ) → i < rows → j < cols → IsUnit m (pivot i j))
    bad_by_rows_or_units = elim (first_or_none (λ i. HasBad cols (pivot i)) tell_row rows) [
      | inl found ↦ inl (
        record { row = found.number; col = found.such.number },
        record {
          row = found.within;
          col = found.such.within;
          bad = found.such.such;
          first = λ i j row col before. earlier found i j col before;
        },
      )
      | inr none ↦ inr (λ i j row col. good_row i (none i row) j col)
    ]
      where
        earlier : (found : HasFirst (λ i. HasBad cols (pivot i)) rows) (i j : ℕ) → j < cols → IsBefore i j (record { row = found.number; col = found.such.number })
            → IsUnit m (pivot i j)
        earlier found i j col (inl above) = good_row i (found.first i above) j col
        earlier found i j col (inr here) = rw here.0 (not_bad (pivot found.number j) (found.such.first j here.1))

-- ---- where no place has the first bad pivot

pub units_on_diagonal : (m n : ℕ) → 2 ≤ m → (pivot : ℕ → ℕ) → ((place : Place) → ¬ (IsFirstOnDiagonal m n pivot place)) → (i : ℕ) → i < n → IsUnit m (pivot i)
units_on_diagonal m n two pivot none = elim (bad_on_diagonal_or_units m two n pivot) [
  | inl bad ↦ absurd (none bad.0 bad.1)
  | inr units ↦ units
]

pub units_by_rows : (m rows cols : ℕ) → 2 ≤ m → (pivot : Table) → ((place : Place) → ¬ (IsFirstByRows m rows cols pivot place))
    → (i j : ℕ) → i < rows → j < cols → IsUnit m (pivot i j)
units_by_rows m rows cols two pivot none = elim (bad_by_rows_or_units m two rows cols pivot) [
  | inl bad ↦ absurd (none bad.0 bad.1)
  | inr units ↦ units
]
