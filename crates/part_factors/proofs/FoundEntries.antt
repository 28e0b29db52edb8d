-- One entry of a block that is factored in place. Cited by the kernels that find factors entry by entry.
use Rattle.std.proofs.Common.{◌≡◌, ◌≢◌, ℕ, min, ◌+◌, ◌-◌, ◌*◌, ◌%◌, ◌<◌, ◌≤◌, ◌⊎◌, inl, inr, refl, ap₂, ◌∙◌, arith}
use Rattle.std.proofs.lemmas.Bool.{cases_eq, cases_lt}
use Rattle.residue_sums.specs.Residues.{Cong}
use Rattle.residue_sums.specs.Sums.{sum_below}
use Rattle.residue_sums.specs.Tables.{Table}
use Rattle.residue_sums.proofs.Congruence.{Cong-trans, Cong-sym, Cong-from_same, Cong-from_difference, Cong-from_scaled_difference, Cong-add}
use Rattle.residue_sums.proofs.Sums.{sum_below-same}
use Rattle.structure_rules.specs.Structures.{IsInside, IsZero}
use Rattle.matrix_algebra.proofs.InPlace.{OnlyAt}
use Rattle.matrix_algebra.proofs.Packed.{pivot_of, pivot_of-lower, pivot_of-upper, pivot_of-solved}
use Rattle.part_factors.specs.declared.factoring.FactorKind.{FactorKind}
use Rattle.part_factors.specs.declared.factoring.FactorKind.TheVariants.{Lu, Ldl}
use Rattle.part_factors.specs.ColumnFactors.{found_in, first_row_of, left_of, terms_of, IsRowFound}

-- the equation of an entry that is found: u its old value, sum the sum of its other terms, v the new one
pub entry_solved : {m : ℕ} (w : Table) (i j sum rest scale v : ℕ) → sum < m → rest ≡ (w i j + m - sum) % m → v ≡ (rest * scale) % m
    → (j < i → Cong m (w j j * scale) 1) → (i ≤ j → scale ≡ 1) → Cong m (sum + pivot_of w i j * v) (w i j)
entry_solved {m} w i j sum rest scale v small rest_is v_is lower upper =
    pivot_of-solved m i j sum v scale w (Cong-from_scaled_difference sum rest scale v_is (Cong-from_difference sum (w i j + m - sum) rest_is (omega arith))) lower upper

module _ (m n : ℕ) (kind : FactorKind) (w w' : Table) (i j : ℕ) (only : OnlyAt n n w w' i j) where
  -- one entry of a row, written where its equation holds
  pub IsRowFound-entry : (IsInside (found_in kind) i j → Cong m (left_of kind w' i j) (w i j)) → IsInside (found_in kind) i j → IsRowFound m n kind i j (j + 1) w w'
  IsRowFound-entry holds here = record {
    found = λ b begun end inside. let same : b ≡ j = omega arith in rw same (holds here);
    others = λ a b row col apart. others a b row col apart;
  }
    where
      others : (a b : ℕ) → a < n → b < n → (a ≢ i) ⊎ ((b < j) ⊎ ((j + 1 ≤ b) ⊎ IsZero (found_in kind) a b)) → w' a b ≡ w a b
      others a b row col (inl apart) = only a b row col (inl apart)
      others a b row col (inr (inl before)) = only a b row col (inr (λ e. omega arith))
      others a b row col (inr (inr (inl behind))) = only a b row col (inr (λ e. omega arith))
      others a b row col (inr (inr (inr zero))) = elim (cases_eq a i) [
        | inr apart ↦ only a b row col (inl apart)
        | inl same ↦ elim (cases_eq b j) [
          | inr apart ↦ only a b row col (inr apart)
          | inl same_col ↦ absurd (here (rw same_col at (rw same at zero)))
        ]
      ]

module _ (m n : ℕ) (w w' : Table) (i j sum rest scale v : ℕ) (row : i < n) (col : j < n) (only : OnlyAt n n w w' i j) (here : w' i j ≡ v)
    (small : sum < m) (rest_is : rest ≡ (w i j + m - sum) % m) (v_is : v ≡ (rest * scale) % m)
    (lower : j < i → Cong m (w j j * scale) 1) (upper : i ≤ j → scale ≡ 1) where
  pivot_kept : pivot_of w' i j ≡ pivot_of w i j
  pivot_kept = elim (cases_lt j i) [
    | inl below ↦ rw (pivot_of-lower w' i j below, pivot_of-lower w i j below) (only j j col col (inl (λ e. omega arith)))
    | inr above ↦ rw (pivot_of-upper w' i j above, pivot_of-upper w i j above) refl
  ]

  term_kept : pivot_of w' i j * w' i j ≡ pivot_of w i j * v
  term_kept = ap₂ (λ (a b : ℕ). a * b) pivot_kept here

  terms_kept : (kind : FactorKind) → first_row_of kind j ≤ i → terms_of kind w' i j ≡ terms_of kind w i j
  terms_kept Lu begun = sum_below-same (λ k. w' i k * w' k j) (λ k. w i k * w k j) (min i j) (λ k below. ap₂ (λ (a b : ℕ). a * b)
      (only i k row (omega arith) (inr (λ e. omega arith))) (only k j (omega arith) col (inl (λ e. omega arith))))
  terms_kept Ldl begun = sum_below-same (λ k. w' i k * (w' k k * w' j k)) (λ k. w i k * (w k k * w j k)) j (λ k below. ap₂ (λ (a b : ℕ). a * b)
      (only i k row (omega arith) (inr (λ e. omega arith)))
      (ap₂ (λ (a b : ℕ). a * b) (only k k (omega arith) (omega arith) (inr (λ e. omega arith))) (only j k col (omega arith) (inr (λ e. omega arith)))))

  inside_here : (kind : FactorKind) → first_row_of kind j ≤ i → IsInside (found_in kind) i j
  inside_here Lu begun none = none
  inside_here Ldl begun over = omega arith

  left_is : (kind : FactorKind) → left_of kind w' i j ≡ terms_of kind w' i j + pivot_of w' i j * w' i j
  left_is Lu = refl
  left_is Ldl = refl

  pub IsRowFound-written : (kind : FactorKind) → first_row_of kind j ≤ i → Cong m sum (terms_of kind w i j) → IsRowFound m n kind i j (j + 1) w w'
  IsRowFound-written kind begun sum_is = IsRowFound-entry m n kind w w' i j only
      (λ inside. Cong-trans (Cong-from_same (left_is kind ∙ ap₂ (λ (a b : ℕ). a + b) (terms_kept kind begun) term_kept))
      (Cong-trans (Cong-add (Cong-sym sum_is) (Cong-from_same refl)) (entry_solved w i j sum rest scale v small rest_is v_is lower upper)))
      (inside_here kind begun)

-- a write of a residue leaves residues
pub small_after : (rows cols i j m : ℕ) (w w' : Table) → ((a b : ℕ) → a < rows → b < cols → w a b < m) → w' i j < m → OnlyAt rows cols w w' i j
    → (a b : ℕ) → a < rows → b < cols → w' a b < m
small_after rows cols i j m w w' small here only a b row col = go (cases_eq a i) (cases_eq b j)
  where
    go : (a ≡ i) ⊎ (a ≢ i) → (b ≡ j) ⊎ (b ≢ j) → w' a b < m
    go (inl same) (inl same') = rw (same, same') here
    go (inr apart) _ = rw (only a b row col (inl apart)) (small a b row col)
    go (inl _) (inr apart) = rw (only a b row col (inr apart)) (small a b row col)
