-- Factors that are found in place, column after column. Cited by the kernels that factor: each entry's equation reads entries of
-- earlier or the same rows and columns alone, so that it still holds once later ones are written.
use Rattle.std.proofs.Common.{◌≡◌, ◌≢◌, ℕ, ◌+◌, ◌<◌, ◌≤◌, ◌⊎◌, inl, inr, refl, ◌∙◌, arith}
use Rattle.std.proofs.lemmas.Bool.{cases_eq, cases_lt}
use Rattle.residue_sums.specs.Residues.{Cong, IsUnit}
use Rattle.residue_sums.specs.Tables.{Table}
use Rattle.residue_sums.proofs.Congruence.{Cong-trans, Cong-from_same}
use Rattle.structure_rules.specs.Structures.{IsInside, IsZero}
use Rattle.part_factors.specs.declared.factoring.FactorKind.{FactorKind}
use Rattle.part_factors.specs.declared.factoring.FactorKind.TheVariants.{Lu, Ldl}
use Rattle.part_factors.specs.ColumnFactors.{found_in, first_row_of, left_of, IsRowFound, AreRowsFound, IsStoppedAt}
use Rattle.part_factors.proofs.Leading.{leading}

module _ (m n : ℕ) where
  -- before the first row
  pub AreRowsFound-begun : (kind : FactorKind) (from to : ℕ) (w : Table) → AreRowsFound m n kind (first_row_of kind from) from to w w
  AreRowsFound-begun Lu from to w = record {
    found = λ i j row begun within inside. absurd (omega arith);
    units = λ j row begun within. absurd (omega arith);
    others = λ a b row col apart. refl;
  }
  AreRowsFound-begun Ldl from to w = record {
    found = λ i j row begun within inside. absurd (inside (omega arith));
    units = λ j row begun within. absurd (omega arith);
    others = λ a b row col apart. refl;
  }

  -- before the first column
  pub AreRowsFound-no_columns : (kind : FactorKind) (rows : ℕ) (w : Table) → AreRowsFound m n kind rows 0 0 w w
  AreRowsFound-no_columns kind rows w = record {
    found = λ i j row begun within inside. absurd (omega arith);
    units = λ j row begun within. absurd (omega arith);
    others = λ a b row col apart. refl;
  }

module _ (m n : ℕ) (kind : FactorKind) where
  -- the equations of earlier rows stay
  found_before : (i from to : ℕ) (old w new : Table) → i < n → to ≤ n → AreRowsFound m n kind i from to old w → IsRowFound m n kind i from to w new
      → (a b : ℕ) → a < i → from ≤ b → b < to → IsInside (found_in kind) a b → Cong m (left_of kind new a b) (old a b)
  found_before i from to old w new row within so_far step a b before begun end inside =
      Cong-trans (Cong-from_same ((leading kind).same new w a b inside (λ c d up across inner. step.others c d (omega arith) (omega arith) (inl (λ e. omega arith)))))
      (so_far.found a b before begun end inside)

  found_here : (i from to : ℕ) (old w new : Table) → i < n → to ≤ n → AreRowsFound m n kind i from to old w → IsRowFound m n kind i from to w new
      → (b : ℕ) → from ≤ b → b < to → IsInside (found_in kind) i b → Cong m (left_of kind new i b) (old i b)
  found_here i from to old w new row within so_far step b begun end inside =
      Cong-trans (step.found b begun end inside) (Cong-from_same (so_far.others i b row (omega arith) (inl (omega arith))))

  found_so_far : (i from to : ℕ) (old w new : Table) → i < n → to ≤ n → AreRowsFound m n kind i from to old w → IsRowFound m n kind i from to w new
      → (a b : ℕ) → a ≤ i → from ≤ b → b < to → IsInside (found_in kind) a b → Cong m (left_of kind new a b) (old a b)
  found_so_far i from to old w new row within so_far step a b up begun end inside = elim (cases_eq a i) [
    | inl same ↦ rw same (found_here i from to old w new row within so_far step b begun end (rw same at inside))
    | inr apart ↦ found_before i from to old w new row within so_far step a b (omega arith) begun end inside
  ]

  units_so_far : (i from to : ℕ) (old w new : Table) → i < n → to ≤ n → AreRowsFound m n kind i from to old w → IsRowFound m n kind i from to w new
      → (j : ℕ) → j < i → from ≤ j → j < to → IsUnit m (new j j)
  units_so_far i from to old w new row within so_far step j before begun end =
      let kept : new j j ≡ w j j = step.others j j (omega arith) (omega arith) (inl (λ e. omega arith)) in
      rw kept (so_far.units j before begun end)

  -- a further row
  pub AreRowsFound-more : (i from to : ℕ) (old w new : Table) → i < n → to ≤ n → AreRowsFound m n kind i from to old w → IsRowFound m n kind i from to w new
      → (from ≤ i → i < to → IsUnit m (new i i)) → AreRowsFound m n kind (i + 1) from to old new
  AreRowsFound-more i from to old w new row within so_far step unit = record {
    found = λ a b up begun end inside. found_so_far i from to old w new row within so_far step a b (omega arith) begun end inside;
    units = λ j up begun end. elim (cases_eq j i) [
      | inl same ↦ rw same (unit (omega arith) (omega arith))
      | inr apart ↦ units_so_far i from to old w new row within so_far step j (omega arith) begun end
    ];
    others = λ a b a_row b_col apart. others a b a_row b_col apart;
  }
    where
      others : (a b : ℕ) → a < n → b < n → (i + 1 ≤ a) ⊎ ((b < from) ⊎ ((to ≤ b) ⊎ IsZero (found_in kind) a b)) → new a b ≡ old a b
      others a b a_row b_col (inl behind) = step.others a b a_row b_col (inl (λ e. omega arith)) ∙ so_far.others a b a_row b_col (inl (omega arith))
      others a b a_row b_col (inr apart) = step.others a b a_row b_col (inr apart) ∙ so_far.others a b a_row b_col (inr apart)

  -- a row whose pivot is no unit
  pub IsStoppedAt-row : (i from to : ℕ) (old w new : Table) → i < n → to ≤ n → AreRowsFound m n kind i from to old w → IsRowFound m n kind i from to w new
      → from ≤ i → i < to → ¬ (IsUnit m (new i i)) → IsStoppedAt m n kind from i old new
  IsStoppedAt-row i from to old w new row within so_far step begun end bad = record {
    begun = begun;
    within = row;
    found = λ a b up b_begun across inside. found_so_far i from to old w new row within so_far step a b up b_begun (omega arith) inside;
    units = λ j j_begun before. units_so_far i from to old w new row within so_far step j before j_begun (omega arith);
    bad = bad;
    kept = λ a b a_row before. step.others a b a_row (omega arith) (inr (inl before)) ∙ so_far.others a b a_row (omega arith) (inr (inl before));
  }

  -- further columns, and the entries of the columns before them
  module _ (from to : ℕ) (old w new : Table) (order : from ≤ to) (within : to ≤ n) (so_far : AreRowsFound m n kind n 0 from old w)
      (kept : (a b : ℕ) → a < n → b < from → new a b ≡ w a b) where
    found_left : (i j : ℕ) → i < n → j < from → IsInside (found_in kind) i j → Cong m (left_of kind new i j) (old i j)
    found_left i j row before inside =
        Cong-trans (Cong-from_same ((leading kind).same new w i j inside (λ a b up across inner. kept a b (omega arith) (omega arith)))) (so_far.found i j row (omega arith) before inside)

    units_left : (j : ℕ) → j < from → IsUnit m (new j j)
    units_left j before = rw (kept j j (omega arith) before) (so_far.units j (omega arith) (omega arith) before)

    -- an equation that holds for the matrix before these columns
    found_right : (i j : ℕ) → i < n → from ≤ j → j < to → Cong m (left_of kind new i j) (w i j) → Cong m (left_of kind new i j) (old i j)
    found_right i j row begun end here = Cong-trans here (Cong-from_same (so_far.others i j row (omega arith) (inr (inr (inl begun)))))

  pub AreRowsFound-then : (from to : ℕ) (old w new : Table) → from ≤ to → to ≤ n → AreRowsFound m n kind n 0 from old w → AreRowsFound m n kind n from to w new
      → AreRowsFound m n kind n 0 to old new
  AreRowsFound-then from to old w new order within so_far step = record {
    found = λ i j row begun end inside. elim (cases_lt j from) [
      | inl before ↦ found_left from to old w new order within so_far kept i j row before inside
      | inr behind ↦ found_right from to old w new order within so_far kept i j row behind end (step.found i j row behind end inside)
    ];
    units = λ j row begun end. elim (cases_lt j from) [
      | inl before ↦ units_left from to old w new order within so_far kept j before
      | inr behind ↦ step.units j row behind end
    ];
    others = λ a b row col apart. others a b row col apart;
  }
    where
      kept : (a b : ℕ) → a < n → b < from → new a b ≡ w a b
      kept a b row before = step.others a b row (omega arith) (inr (inl before))

      others : (a b : ℕ) → a < n → b < n → (n ≤ a) ⊎ ((b < 0) ⊎ ((to ≤ b) ⊎ IsZero (found_in kind) a b)) → new a b ≡ old a b
      others a b row col (inl past) = absurd (omega arith)
      others a b row col (inr (inl none)) = absurd (omega arith)
      others a b row col (inr (inr (inl behind))) = step.others a b row col (inr (inr (inl behind))) ∙ so_far.others a b row col (inr (inr (inl (omega arith))))
      others a b row col (inr (inr (inr zero))) = step.others a b row col (inr (inr (inr zero))) ∙ so_far.others a b row col (inr (inr (inr zero)))

  pub IsStoppedAt-then : (from k : ℕ) (old w new : Table) → AreRowsFound m n kind n 0 from old w → IsStoppedAt m n kind from k w new → IsStoppedAt m n kind 0 k old new
  IsStoppedAt-then from k old w new so_far step = record {
    begun = omega arith;
    within = step.within;
    found = λ i j up begun across inside. elim (cases_lt j from) [
      | inl before ↦ found_left from (k + 1) old w new order within so_far step.kept i j (omega (arith, step.within)) before inside
      | inr behind ↦ found_right from (k + 1) old w new order within so_far step.kept i j (omega (arith, step.within)) behind (omega arith) (step.found i j up behind across inside)
    ];
    units = λ j begun before_k. elim (cases_lt j from) [
      | inl before ↦ units_left from (k + 1) old w new order within so_far step.kept j before
      | inr behind ↦ step.units j behind before_k
    ];
    bad = step.bad;
    kept = λ i j row before. absurd (omega arith);
  }
    where
      order : from ≤ k + 1
      order = omega (arith, step.begun)

      within : k + 1 ≤ n
      within = omega (arith, step.within)

-- the same at another name of the size
module _ {m n n' : ℕ} {kind : FactorKind} (same : n' ≡ n) where
  pub IsRowFound-resized : {i from to : ℕ} {old new : Table} → IsRowFound m n' kind i from to old new → IsRowFound m n kind i from to old new
  IsRowFound-resized h = rw same at h

  pub AreRowsFound-resized : {rows from to : ℕ} {old new : Table} → AreRowsFound m n' kind rows from to old new → AreRowsFound m n kind rows from to old new
  AreRowsFound-resized h = rw same at h

  pub AreRowsFound-all_resized : {from to : ℕ} {old new : Table} → AreRowsFound m n' kind n' from to old new → AreRowsFound m n kind n from to old new
  AreRowsFound-all_resized h = rw same at h

  pub IsStoppedAt-resized : {from k : ℕ} {old new : Table} → IsStoppedAt m n' kind from k old new → IsStoppedAt m n kind from k old new
  IsStoppedAt-resized h = rw same at h

module _ (m n : ℕ) (kind : FactorKind) where
  -- no columns of a row
  pub IsRowFound-none : (i from to : ℕ) (w : Table) → to ≤ from → IsRowFound m n kind i from to w w
  IsRowFound-none i from to w none = record {
    found = λ j begun end inside. absurd (omega arith);
    others = λ a b row col apart. refl;
  }

  -- further columns of a row
  pub IsRowFound-join : (i from mid to : ℕ) (old w new : Table) → i < n → from ≤ mid → mid ≤ to → to ≤ n → IsRowFound m n kind i from mid old w → IsRowFound m n kind i mid to w new
      → IsRowFound m n kind i from to old new
  IsRowFound-join i from mid to old w new row begun end within first second = record {
    found = λ j j_begun j_end inside. elim (cases_lt j mid) [
      | inl before ↦ Cong-trans (Cong-from_same ((leading kind).same new w i j inside (λ a b up across inner. second.others a b (omega arith) (omega arith) (inr (inl (omega arith))))))
          (first.found j j_begun before inside)
      | inr behind ↦ Cong-trans (second.found j behind j_end inside) (Cong-from_same (first.others i j row (omega arith) (inr (inr (inl behind)))))
    ];
    others = λ a b a_row b_col apart. others a b a_row b_col apart;
  }
    where
      others : (a b : ℕ) → a < n → b < n → (a ≢ i) ⊎ ((b < from) ⊎ ((to ≤ b) ⊎ IsZero (found_in kind) a b)) → new a b ≡ old a b
      others a b a_row b_col (inl apart) = second.others a b a_row b_col (inl apart) ∙ first.others a b a_row b_col (inl apart)
      others a b a_row b_col (inr (inl before)) = second.others a b a_row b_col (inr (inl (omega arith))) ∙ first.others a b a_row b_col (inr (inl before))
      others a b a_row b_col (inr (inr (inl behind))) = second.others a b a_row b_col (inr (inr (inl behind))) ∙ first.others a b a_row b_col (inr (inr (inl (omega arith))))
      others a b a_row b_col (inr (inr (inr zero))) = second.others a b a_row b_col (inr (inr (inr zero))) ∙ first.others a b a_row b_col (inr (inr (inr zero)))

  -- behind the diagonal of a lower structure there is nothing to find
  pub IsRowFound-widened : (i from to : ℕ) (w new : Table) → i < to → ((j : ℕ) → i < j → ¬ (IsInside (found_in kind) i j)) → IsRowFound m n kind i from (i + 1) w new
      → IsRowFound m n kind i from to w new
  IsRowFound-widened i from to w new end lower h = record {
    found = λ j begun j_end inside. elim (cases_lt i j) [
      | inl above ↦ absurd (lower j above inside)
      | inr below ↦ h.found j begun (omega arith) inside
    ];
    others = λ a b row col apart. others a b row col apart;
  }
    where
      others : (a b : ℕ) → a < n → b < n → (a ≢ i) ⊎ ((b < from) ⊎ ((to ≤ b) ⊎ IsZero (found_in kind) a b)) → new a b ≡ w a b
      others a b row col (inl apart) = h.others a b row col (inl apart)
      others a b row col (inr (inl before)) = h.others a b row col (inr (inl before))
      others a b row col (inr (inr (inl behind))) = h.others a b row col (inr (inr (inl (omega arith))))
      others a b row col (inr (inr (inr zero))) = h.others a b row col (inr (inr (inr zero)))
