-- A row that was found by a panel. Cited by the kernels that factor piece by piece.
use Rattle.std.proofs.Common.{◌≡◌, ◌≢◌, ℕ, min, ◌+◌, ◌-◌, ◌*◌, ◌%◌, ◌<◌, ◌≤◌, ◌⊎◌, inl, inr, ap, ap₂, sym, ◌∙◌, arith}
use Rattle.std.proofs.lemmas.Bool.{cases_lt, cases_eq}
use Rattle.residue_sums.specs.Residues.{Cong}
use Rattle.residue_sums.specs.Sums.{sum_below}
use Rattle.residue_sums.specs.Tables.{Table}
use Rattle.residue_sums.proofs.Congruence.{Cong-trans, Cong-from_same, Cong-sym, Cong-add, Cong-mul, Cong-by, Cong-from_mod, Cong-from_difference}
use Rattle.residue_sums.proofs.Sums.{sum_below-same, sum_below-split, sum_below-Cong}
use Rattle.structure_rules.specs.declared.Structure.TheVariants.{General, Lower}
use Rattle.structure_rules.specs.Structures.{IsZero}
use Rattle.matrix_algebra.proofs.Packed.{pivot_of, pivot_of-lower, pivot_of-upper}
use Rattle.matrix_algebra.proofs.InPlace.{OnlyAt}
use Rattle.matrix_algebra.proofs.Lu.{lu_left}
use Rattle.matrix_algebra.proofs.Ldl.{ldl_left}
use Rattle.part_factors.specs.declared.factoring.FactorKind.TheVariants.{Lu, Ldl}
use Rattle.part_factors.specs.ColumnFactors.{IsRowFound}
use Rattle.part_factors.specs.PanelRows.{AreSolved}
use Rattle.part_factors.proofs.FoundEntries.{IsRowFound-entry}

-- a sum over s numbers, and e further ones from another place on
pub sum_in_two : (f g h : ℕ → ℕ) (from s e : ℕ) → ((k : ℕ) → k < s → f k ≡ g k) → ((t : ℕ) → t < e → (s ≡ from) × (f (from + t) ≡ h t))
    → sum_below f (s + e) ≡ sum_below g s + sum_below h e
sum_in_two f g h from s e first second =
    sum_below-split f s e ∙ ap₂ (λ (a b : ℕ). a + b) (sum_below-same f g s first)
    (sum_below-same (λ t. f (s + t)) h e (λ t below. ap (λ (p : ℕ). f (p + t)) ((second t below).0) ∙ (second t below).1))

module _ (m n : ℕ) (old new : Table) (i from width : ℕ) (row values inverses : ℕ → ℕ) (lines whole : Table) (row_in : i < n) (within : from + width ≤ n)
    (row_is : (k : ℕ) → k < n → row k ≡ old i k) (lines_are : (j k : ℕ) → lines j k ≡ whole j (from + k))
    (here : (t : ℕ) → t < width → new i (from + t) ≡ values t)
    (others : (a b : ℕ) → a < n → b < n → (a ≢ i) ⊎ ((b < from) ⊎ (from + width ≤ b)) → new a b ≡ old a b)
    (copied : (j k : ℕ) → j < width → k < i → k < from + width → whole j k ≡ old k (from + j))
    (inverts : (j : ℕ) → j < width → from + j < i → Cong m (old (from + j) (from + j) * inverses j) 1)
    (solved : AreSolved m (λ j. row (from + j)) (λ j. sum_below (λ k. row k * whole j k) (min i from)) inverses lines (min (i - from) width) width values) where
  -- an earlier entry of the column
  column_kept : (j k : ℕ) → j < width → k < i → k < from + width → new k (from + j) ≡ whole j k
  column_kept j k col up within_k = others k (from + j) (omega arith) (omega arith) (inl (λ e. omega arith)) ∙ sym (copied j k col up within_k)

  terms : (j : ℕ) → j < width → sum_below (λ k. new i k * new k (from + j)) (min i from + min (i - from) j)
      ≡ sum_below (λ k. row k * whole j k) (min i from) + sum_below (λ k. values k * lines j k) (min (i - from) j)
  terms j col = sum_in_two (λ k. new i k * new k (from + j)) (λ k. row k * whole j k) (λ k. values k * lines j k) from (min i from) (min (i - from) j)
      (λ k below. ap₂ (λ (a b : ℕ). a * b)
      (others i k row_in (omega arith) (inr (inl (omega arith))) ∙ sym (row_is k (omega arith))) (column_kept j k col (omega arith) (omega arith)))
      (λ t below. (omega arith, ap₂ (λ (a b : ℕ). a * b) (here t (omega arith)) (column_kept j (from + t) col (omega arith) (omega arith) ∙ sym (lines_are j t))))

  below_diagonal : (j : ℕ) → j < width → from + j < i → Cong m (lu_left new i (from + j)) (old i (from + j))
  below_diagonal j col under =
      let size : min i (from + j) ≡ min i from + min (i - from) j = omega arith in
      let all : min (i - from) j ≡ j = omega arith in
      let pivot : pivot_of new i (from + j) ≡ old (from + j) (from + j) = pivot_of-lower new i (from + j) under ∙ others (from + j) (from + j) (omega arith) (omega arith) (inl (λ e. omega arith)) in
      let left : lu_left new i (from + j) ≡ sum_below (λ k. row k * whole j k) (min i from) + sum_below (λ k. values k * lines j k) j + old (from + j) (from + j) * values j =
      ap₂ (λ (a b : ℕ). a + b) (ap (sum_below (λ k. new i k * new k (from + j))) size ∙ terms j col ∙ ap (λ (e : ℕ). sum_below (λ k. row k * whole j k) (min i from) + sum_below (λ k. values k * lines j k) e) all)
      (ap₂ (λ (a b : ℕ). a * b) pivot (here j col)) in
      Cong-trans (Cong-from_same left) (Cong-trans (solved.below j (old (from + j) (from + j)) col (omega arith) (inverts j col under)) (Cong-from_same (row_is (from + j) (omega arith))))

  above_diagonal : (j : ℕ) → j < width → i ≤ from + j → Cong m (lu_left new i (from + j)) (old i (from + j))
  above_diagonal j col over =
      let size : min i (from + j) ≡ min i from + min (i - from) j = omega arith in
      let all : min (i - from) j ≡ min (i - from) width = omega arith in
      let left : lu_left new i (from + j) ≡ sum_below (λ k. row k * whole j k) (min i from) + sum_below (λ k. values k * lines j k) (min (i - from) width) + 1 * values j =
      ap₂ (λ (a b : ℕ). a + b) (ap (sum_below (λ k. new i k * new k (from + j))) size ∙ terms j col ∙ ap (λ (e : ℕ). sum_below (λ k. row k * whole j k) (min i from) + sum_below (λ k. values k * lines j k) e) all)
      (ap₂ (λ (a b : ℕ). a * b) (pivot_of-upper new i (from + j) over) (here j col)) in
      let one : 1 * values j ≡ values j = omega arith in
      Cong-trans (Cong-from_same (left ∙ ap (λ (v : ℕ). sum_below (λ k. row k * whole j k) (min i from) + sum_below (λ k. values k * lines j k) (min (i - from) width) + v) one))
      (Cong-trans (solved.above j col (omega arith)) (Cong-from_same (row_is (from + j) (omega arith))))

  found_at : (j : ℕ) → j < width → Cong m (lu_left new i (from + j)) (old i (from + j))
  found_at j col = elim (cases_lt (from + j) i) [
    | inl under ↦ below_diagonal j col under
    | inr over ↦ above_diagonal j col over
  ]

  pub IsRowFound-lu_piece : IsRowFound m n Lu i from (from + width) old new
  IsRowFound-lu_piece = record {
    found = λ b begun end inside. let place : from + (b - from) ≡ b = omega arith in rw place at (found_at (b - from) (omega arith));
    others = λ a b a_row b_col apart. kept a b a_row b_col apart;
  }
    where
      kept : (a b : ℕ) → a < n → b < n → (a ≢ i) ⊎ ((b < from) ⊎ ((from + width ≤ b) ⊎ IsZero General a b)) → new a b ≡ old a b
      kept a b a_row b_col (inl apart) = others a b a_row b_col (inl apart)
      kept a b a_row b_col (inr (inl before)) = others a b a_row b_col (inr (inl before))
      kept a b a_row b_col (inr (inr (inl behind))) = others a b a_row b_col (inr (inr behind))
      kept a b a_row b_col (inr (inr (inr none))) = absurd none

-- a row that was written in a piece has residues, where the piece and the others have
pub small_after_row : (rows cols i from width m : ℕ) (values : ℕ → ℕ) (w w' : Table) → ((a b : ℕ) → a < rows → b < cols → w a b < m) → ((t : ℕ) → t < width → values t < m)
    → ((t : ℕ) → t < width → w' i (from + t) ≡ values t) → ((a b : ℕ) → a < rows → b < cols → (a ≢ i) ⊎ ((b < from) ⊎ (from + width ≤ b)) → w' a b ≡ w a b)
    → (a b : ℕ) → a < rows → b < cols → w' a b < m
small_after_row rows cols i from width m values w w' small small_values here others a b row col = elim (cases_eq a i) [
  | inr apart ↦ rw (others a b row col (inl apart)) (small a b row col)
  | inl same ↦ elim (cases_lt b from) [
    | inl before ↦ rw (others a b row col (inr (inl before))) (small a b row col)
    | inr begun ↦ elim (cases_lt b (from + width)) [
      | inr behind ↦ rw (others a b row col (inr (inr behind))) (small a b row col)
      | inl within ↦ (let place : from + (b - from) ≡ b = omega arith in
          let value : w' i b ≡ values (b - from) = rw place at (here (b - from) (omega arith)) in
          rw (same, value) (small_values (b - from) (omega arith)))
    ]
  ]
]

-- a sum in two, modulo m
pub sum_in_two-Cong : (m : ℕ) (f g h : ℕ → ℕ) (from e : ℕ) → ((k : ℕ) → k < from → Cong m (f k) (g k)) → ((t : ℕ) → t < e → Cong m (f (from + t)) (h t))
    → Cong m (sum_below f (from + e)) (sum_below g from + sum_below h e)
sum_in_two-Cong m f g h from e first second =
    Cong-trans (Cong-from_same (sum_below-split f from e)) (Cong-add (sum_below-Cong m f g from first) (sum_below-Cong m (λ t. f (from + t)) h e second))

module _ (m n : ℕ) (old new : Table) (i from width : ℕ) (row values inverses : ℕ → ℕ) (lines whole : Table) (row_in : i < n) (within : from + width ≤ i)
    (row_is : (k : ℕ) → k < n → row k ≡ old i k) (lines_are : (j k : ℕ) → lines j k ≡ whole j (from + k))
    (here : (t : ℕ) → t < width → new i (from + t) ≡ values t)
    (others : (a b : ℕ) → a < n → b < n → (a ≢ i) ⊎ ((b < from) ⊎ (from + width ≤ b)) → new a b ≡ old a b)
    (scaled : (j k : ℕ) → j < width → k < from + j → whole j k ≡ old k k * old (from + j) k % m)
    (inverts : (j : ℕ) → j < width → Cong m (old (from + j) (from + j) * inverses j) 1)
    (solved : AreSolved m (λ j. row (from + j)) (λ j. sum_below (λ k. row k * whole j k) (min i from)) inverses lines (min (i - from) width) width values) where
  -- a number of a line is an entry of D times one of L
  scaled_kept : (j k : ℕ) → j < width → k < from + j → Cong m (new k k * new (from + j) k) (whole j k)
  scaled_kept j k col up =
      let diagonal : new k k ≡ old k k = others k k (omega arith) (omega arith) (inl (λ e. omega arith)) in
      let lower : new (from + j) k ≡ old (from + j) k = others (from + j) k (omega arith) (omega arith) (inl (λ e. omega arith)) in
      Cong-trans (Cong-from_same (ap₂ (λ (a b : ℕ). a * b) diagonal lower)) (Cong-sym (Cong-from_mod (scaled j k col up)))

  ldl_terms : (j : ℕ) → j < width → Cong m (sum_below (λ k. new i k * (new k k * new (from + j) k)) (from + j))
      (sum_below (λ k. row k * whole j k) from + sum_below (λ k. values k * lines j k) j)
  ldl_terms j col = sum_in_two-Cong m (λ k. new i k * (new k k * new (from + j) k)) (λ k. row k * whole j k) (λ k. values k * lines j k) from j
      (λ k below. Cong-mul (Cong-from_same (others i k row_in (omega arith) (inr (inl below)) ∙ sym (row_is k (omega arith)))) (scaled_kept j k col (omega arith)))
      (λ t below. Cong-mul (Cong-from_same (here t (omega arith))) (Cong-trans (scaled_kept j (from + t) col (omega arith)) (Cong-from_same (sym (lines_are j t)))))

  ldl_found_at : (j : ℕ) → j < width → Cong m (ldl_left new i (from + j)) (old i (from + j))
  ldl_found_at j col =
      let start : min i from ≡ from = omega arith in
      let pivot : pivot_of new i (from + j) ≡ old (from + j) (from + j) = pivot_of-lower new i (from + j) (omega arith) ∙ others (from + j) (from + j) (omega arith) (omega arith) (inl (λ e. omega arith)) in
      let equation = rw start at (solved.below j (old (from + j) (from + j)) col (omega arith) (inverts j col)) in
      Cong-trans (Cong-add (ldl_terms j col) (Cong-from_same (ap₂ (λ (a b : ℕ). a * b) pivot (here j col)))) (Cong-trans equation (Cong-from_same (row_is (from + j) (omega arith))))

  pub IsRowFound-ldl_piece : IsRowFound m n Ldl i from (from + width) old new
  IsRowFound-ldl_piece = record {
    found = λ b begun end inside. let place : from + (b - from) ≡ b = omega arith in rw place at (ldl_found_at (b - from) (omega arith));
    others = λ a b a_row b_col apart. kept a b a_row b_col apart;
  }
    where
      kept : (a b : ℕ) → a < n → b < n → (a ≢ i) ⊎ ((b < from) ⊎ ((from + width ≤ b) ⊎ IsZero Lower a b)) → new a b ≡ old a b
      kept a b a_row b_col (inl apart) = others a b a_row b_col (inl apart)
      kept a b a_row b_col (inr (inl before)) = others a b a_row b_col (inr (inl before))
      kept a b a_row b_col (inr (inr (inl behind))) = others a b a_row b_col (inr (inr behind))
      kept a b a_row b_col (inr (inr (inr zero))) = elim (cases_eq a i) [
        | inr apart ↦ others a b a_row b_col (inl apart)
        | inl same ↦ others a b a_row b_col (inr (inr (omega (arith, zero))))
      ]

-- a diagonal entry that was written where its equation holds: sum is that of the other terms
pub IsRowFound-ldl_diagonal : (m n : ℕ) (w w' : Table) (i v : ℕ) (row line : ℕ → ℕ) → i < n → OnlyAt n n w w' i i → w' i i ≡ v → ((k : ℕ) → k < n → row k ≡ w i k)
    → ((k : ℕ) → k < i → line k ≡ w k k * w i k % m) → Cong m (sum_below (λ k. row k * line k) i + v) (row i) → IsRowFound m n Ldl i i (i + 1) w w'
IsRowFound-ldl_diagonal m n w w' i v row line row_in only here row_is line_is equation = IsRowFound-entry m n Ldl w w' i i only
    (λ inside. Cong-trans (Cong-add (sum_below-Cong m (λ k. w' i k * (w' k k * w' i k)) (λ k. row k * line k) i terms) (Cong-from_same last)) (Cong-trans equation (Cong-from_same (row_is i row_in))))
    (λ over. omega arith)
  where
    terms : (k : ℕ) → k < i → Cong m (w' i k * (w' k k * w' i k)) (row k * line k)
    terms k below =
        let left : w' i k ≡ w i k = only i k row_in (omega arith) (inr (λ e. omega arith)) in
        let diagonal : w' k k ≡ w k k = only k k (omega arith) (omega arith) (inr (λ e. omega arith)) in
        Cong-mul (Cong-from_same (left ∙ sym (row_is k (omega arith))))
        (Cong-trans (Cong-from_same (ap₂ (λ (a b : ℕ). a * b) diagonal left)) (Cong-sym (Cong-from_mod (line_is k below))))

    last : pivot_of w' i i * w' i i ≡ v
    last = ap₂ (λ (a b : ℕ). a * b) (pivot_of-upper w' i i (omega arith)) here ∙ omega arith

-- what is left of r once a sum is subtracted
pub one_subtracted : {m r sum rest : ℕ} (s : ℕ) → sum < m → Cong m sum s → rest ≡ (r + m - sum) % m → Cong m (s + rest) r
one_subtracted {m} {r} {sum} {rest} s small sum_is rest_is =
    let one : Cong m (rest + sum) r = Cong-from_difference sum (r + m - sum) rest_is (omega arith) in
    Cong-by (Cong-add one (Cong-sym sum_is)) (omega arith)
