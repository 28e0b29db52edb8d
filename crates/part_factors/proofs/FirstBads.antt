-- Lists of inverses that grow by one, and the one first bad pivot.
use Rattle.std.proofs.Common.{arith, ◌<◌, ◌≡◌, ℕ, ◌*◌, ◌%◌, ◌≤◌, inl, inr, Ok, Err, sym, ◌∙◌}
use Rattle.std.proofs.Math.Nat.{mod-eq_of_lt}
use Rattle.std.proofs.lemmas.Bool.{cases_order}
use Rattle.std.specs.declared.result.Result.{Result}
use Rattle.residue_sums.specs.Residues.{IsUnit}
use Rattle.residue_sums.proofs.Congruence.{IsUnit-from_inverse}
use Rattle.residue_sums.specs.Tables.{Table}
use Rattle.equation.specs.Pivots.{IsFirstOnDiagonal, IsFirstByRows}
use Rattle.part_factors.specs.declared.bad_pivot.BadPivot.{BadPivot}
use Rattle.part_factors.specs.BadPlaces.{place_of, IsFirstInRow}

-- the place that an error names
abbrev pub bad_of : Result (Unit {0}) BadPivot → BadPivot
bad_of (Ok _) = record { row = 0; col = 0 }
bad_of (Err bad) = bad

pub same_bad : (p q : BadPivot) → p.row ≡ q.row → p.col ≡ q.col → p ≡ q
same_bad p q row col = λ x. record { row = row x; col = col x }

-- what has an inverse is a unit
pub IsUnit-from_product : (m a v : ℕ) → 2 ≤ m → (a * v) % m ≡ 1 → IsUnit m a
IsUnit-from_product m a v two product = IsUnit-from_inverse m a v two (record { same = product ∙ sym (mod-eq_of_lt two) })

-- of pivots on a diagonal
pub first_on_diagonal : (m n : ℕ) (pivot : ℕ → ℕ) (p q : BadPivot) → IsFirstOnDiagonal m n pivot (place_of p) → IsFirstOnDiagonal m n pivot (place_of q) → p ≡ q
first_on_diagonal m n pivot p q p_is q_is = elim (cases_order p.row q.row) [
  | inl row ↦ same_bad p q row (p_is.diagonal ∙ row ∙ sym q_is.diagonal)
  | inr (inl less) ↦ absurd (p_is.bad (q_is.first p.row less))
  | inr (inr less) ↦ absurd (q_is.bad (p_is.first q.row less))
]

-- of pivots in rows and columns
pub first_by_rows : (m rows cols : ℕ) (pivot : Table) (p q : BadPivot) → IsFirstByRows m rows cols pivot (place_of p) → IsFirstByRows m rows cols pivot (place_of q) → p ≡ q
first_by_rows m rows cols pivot p q p_is q_is = elim (cases_order p.row q.row) [
  | inl row ↦ elim (cases_order p.col q.col) [
    | inl col ↦ same_bad p q row col
    | inr (inl less) ↦ absurd (p_is.bad (q_is.first p.row p.col p_is.row p_is.col (inr (row, less))))
    | inr (inr less) ↦ absurd (q_is.bad (p_is.first q.row q.col q_is.row q_is.col (inr (sym row, less))))
  ]
  | inr (inl less) ↦ absurd (p_is.bad (q_is.first p.row p.col p_is.row p_is.col (inl less)))
  | inr (inr less) ↦ absurd (q_is.bad (p_is.first q.row q.col q_is.row q_is.col (inl less)))
]

-- the first of a row, behind rows of units
pub by_rows_from_row : (m rows cols i : ℕ) (pivot : Table) (place : BadPivot) → i < rows → IsFirstInRow m cols i pivot place
    → ((a j : ℕ) → a < i → j < cols → IsUnit m (pivot a j)) → IsFirstByRows m rows cols pivot (place_of place)
by_rows_from_row m rows cols i pivot place below is units = record {
  row = omega (arith, is.row);
  col = is.col;
  bad = λ unit. is.bad (rw is.row at unit);
  first = λ a j row col before. elim before [
    | inl earlier ↦ units a j (omega (arith, is.row)) col
    | inr here ↦ (let same : a ≡ i = here.0 ∙ is.row in rw same (is.first j here.1))
  ];
}
