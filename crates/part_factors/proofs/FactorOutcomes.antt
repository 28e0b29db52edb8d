-- What the kernels that factor promise of their answer. Cited by these kernels.
use Rattle.std.proofs.Common.{◌≡◌, ◌↔◌, ℕ, ◌<◌, ◌≤◌, Ok, Err, OnOk, ap, ap₂, sym, subst, ◌∙◌, arith}
use Rattle.std.specs.declared.result.Result.{Result}
use Rattle.std.proofs.lemmas.Result.{err_from_is_err_and}
use Rattle.std.specs.Result.{IsErrAnd}
use Rattle.residue_sums.specs.Tables.{Table}
use Rattle.part_factors.specs.declared.bad_pivot.BadPivot.{BadPivot}
use Rattle.part_factors.specs.declared.factoring.FactorKind.{FactorKind}
use Rattle.part_factors.specs.ColumnFactors.{AreRowsFound, IsStoppedAt, IsSearched}
use Rattle.part_factors.proofs.FoundColumns.{IsStoppedAt-then, IsStoppedAt-resized}

-- `?` passes on what stopped a part of the columns
pub IsSearched-passed_on : (m n n' : ℕ) (kind : FactorKind) (from to : ℕ) (old w new : Table) (place : BadPivot) (result : Result (Unit {0}) BadPivot) → n' ≡ n
    → AreRowsFound m n kind n 0 from old w → (place.col ≡ place.row) × IsStoppedAt m n' kind from place.row w new → IsErrAnd result (λ e. e ≡ place)
    → IsSearched m n kind 0 to old new result
IsSearched-passed_on m n n' kind from to old w new place result same so_far stopped passed =
    let told = err_from_is_err_and result passed in
    let is : result ≡ Err place = told.1 ∙ ap (λ (e : BadPivot). Err e) told.2 in
    rw is (stopped.0, IsStoppedAt-then m n kind from place.row old w new so_far (IsStoppedAt-resized same stopped.1))

-- `?` passes on a pivot of this row
pub IsSearched-stopped : (m n : ℕ) (kind : FactorKind) (from to i : ℕ) (old new : Table) (place : BadPivot) (result : Result (Unit {0}) BadPivot)
    → place.row ≡ i → place.col ≡ i → IsStoppedAt m n kind from i old new → IsErrAnd result (λ e. e ≡ place) → IsSearched m n kind from to old new result
IsSearched-stopped m n kind from to i old new place result row col stopped passed =
    let told = err_from_is_err_and result passed in
    let is : result ≡ Err place = told.1 ∙ ap (λ (e : BadPivot). Err e) told.2 in
    rw is (col ∙ sym row, rw row stopped)

abbrev place_at : ℕ → ℕ → BadPivot
place_at i j = record { row = i; col = j }

same_place : (p q : BadPivot) → p.row ≡ q.row → p.col ≡ q.col → p ≡ q
same_place p q row col = ap₂ place_at row col

-- what holds where all is found
pub on_found : {P : Type 0} {m n from to : ℕ} {kind : FactorKind} {old new : Table} → (AreRowsFound m n kind n from to old new → P)
    → (result : Result (Unit {0}) BadPivot) → IsSearched m n kind from to old new result → OnOk result P
on_found holds (Ok x) found = holds found
on_found holds (Err e) stopped = tt

-- the first bad pivot is named, where none is bad if all is found, the one that was met is, and only one is
module _ (m n : ℕ) (kind : FactorKind) (old new : Table) (IsBad : ℕ → Type 0)
    (none_bad : AreRowsFound m n kind n 0 n old new → (k : ℕ) → k < n → ¬ (IsBad k)) (is_bad : (k : ℕ) → IsStoppedAt m n kind 0 k old new → IsBad k)
    (one_bad : (j k : ℕ) → j < n → k < n → IsBad j → IsBad k → j ≡ k) where
  pub bad_pivot_met : (result : Result (Unit {0}) BadPivot) → IsSearched m n kind 0 n old new result → (place : BadPivot)
      → (result ≡ Err place) ↔ ((place.col ≡ place.row) × (place.row < n) × IsBad place.row)
  bad_pivot_met (Ok x) found place = ((λ e. absurd (cc)), (λ h. absurd (none_bad found place.row h.1 h.2)))
  bad_pivot_met (Err met) stopped place = (
    (λ e. let same : met ≡ place = cc in subst (λ (p : BadPivot). (p.col ≡ p.row) × (p.row < n) × IsBad p.row) same (stopped.0, stopped.1.within, is_bad met.row stopped.1)),
    (λ h. let row : met.row ≡ place.row = one_bad met.row place.row stopped.1.within h.1 (is_bad met.row stopped.1) h.2 in
        ap (λ (p : BadPivot). Err p) (same_place met place row (stopped.0 ∙ row ∙ sym h.0))),
  )
