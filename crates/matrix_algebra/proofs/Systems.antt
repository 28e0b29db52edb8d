-- The equations with triangular factors as systems that are solved entry by entry: T * X = R, X * U = R, T * X + X * U = R and
-- T * X - X * U = R. X is read through the structure of the matrix that is solved for, so it is 0 outside, and the equation is
-- required on the entries of that structure. Cited by the one solution of a statement and by the kernels that solve in place, each
-- with an order of the entries of its own: `reads` says that what a row or a column reads comes before.
use Rattle.std.proofs.Common.{◌≡◌, ◌≢◌, ℕ, ◌+◌, ◌*◌, ◌-◌, ◌<◌, ◌≤◌, ◌⊎◌, inl, inr, ap, arith}
use Rattle.residue_sums.specs.Residues.{Cong}
use Rattle.residue_sums.specs.Tables.{Table, product}
use Rattle.residue_sums.proofs.Congruence.{Cong-refl, Cong-sym, Cong-add, Cong-scale, Cong-by, Cong-from_same, Cong-multiple}
use Rattle.residue_sums.proofs.Sums.{sum_below-one_differs}
use Rattle.structure_rules.specs.declared.Structure.{Structure}
use Rattle.structure_rules.specs.Structures.{view, IsInside, IsEntry, IsWorkStructure}
use Rattle.structure_rules.proofs.Views.{IsZero-or_inside, view-zero, view-work}
use Rattle.matrix_algebra.proofs.Substitution.{AgreeBefore, IsSystem}

-- the sum of two systems
pub IsSystem-add : (m : ℕ) (inside : ℕ → ℕ → Type 0) (place : Table) (left left' pivot pivot' : Table → Table)
    → IsSystem m inside place left pivot → IsSystem m inside place left' pivot'
    → IsSystem m inside place (λ x i j. left x i j + left' x i j) (λ x i j. pivot x i j + pivot' x i j)
IsSystem-add m inside place left left' pivot pivot' system system' = record {
  differs = λ x y i j within before. Cong-by (Cong-add (system.differs x y i j within before) (system'.differs x y i j within before)) (omega arith);
}

-- a system times a number
pub IsSystem-scale : (c m : ℕ) (inside : ℕ → ℕ → Type 0) (place : Table) (left pivot : Table → Table)
    → IsSystem m inside place left pivot → IsSystem m inside place (λ x i j. c * left x i j) (λ x i j. c * pivot x i j)
IsSystem-scale c m inside place left pivot system = record {
  differs = λ x y i j within before. Cong-by (Cong-scale c (system.differs x y i j within before)) (omega arith);
}

-- tables that agree inside a work structure have one view
view-work_Cong : (m : ℕ) (s : Structure) (x y : Table) (i j : ℕ) → IsWorkStructure s → (IsInside s i j → Cong m (x i j) (y i j))
    → Cong m (view s x i j) (view s y i j)
view-work_Cong m s x y i j work agree = elim (IsZero-or_inside s i j) [
  | inl outside ↦ rw (view-zero s x i j outside, view-zero s y i j outside) (Cong-refl m 0)
  | inr inside ↦ rw (view-work s x i j work inside, view-work s y i j work inside) (agree inside)
]

module _ (m rows cols : ℕ) (s : Structure) (work : IsWorkStructure s) (place : Table) where
  -- T * X, where row i of T reads entries of X that come before its own
  pub IsSystem-left : (t : Table) → ((i k j : ℕ) → i < rows → k < rows → j < cols → k ≢ i → (t i k ≡ 0) ⊎ (place k j < place i j))
      → IsSystem m (IsEntry rows cols s) place (λ x. product rows t (view s x)) (λ x i j. t i i)
  IsSystem-left t reads = record { differs = differs }
    where
      differs : (x y : Table) (i j : ℕ) → IsEntry rows cols s i j → AgreeBefore m (IsEntry rows cols s) place x y i j
          → Cong m (product rows t (view s x) i j + t i i * y i j) (product rows t (view s y) i j + t i i * x i j)
      differs x y i j within before =
          rw (view-work s x i j work within.inside, view-work s y i j work within.inside) at
          (sum_below-one_differs m rows i (λ k. t i k * view s x k j) (λ k. t i k * view s y k j) within.row
          (λ k row apart. each k row (reads i k j within.row row within.col apart)))
        where
          each : (k : ℕ) → k < rows → (t i k ≡ 0) ⊎ (place k j < place i j) → Cong m (t i k * view s x k j) (t i k * view s y k j)
          each k row (inl none) = Cong-from_same (rw none (omega arith))
          each k row (inr earlier) = Cong-scale (t i k)
              (view-work_Cong m s x y k j work (λ inside. before k j (record { row = row; col = within.col; inside = inside }) earlier))

  -- X * U, where column j of U reads entries of X that come before its own
  pub IsSystem-right : (u : Table) → ((i k j : ℕ) → i < rows → k < cols → j < cols → k ≢ j → (u k j ≡ 0) ⊎ (place i k < place i j))
      → IsSystem m (IsEntry rows cols s) place (λ x. product cols (view s x) u) (λ x i j. u j j)
  IsSystem-right u reads = record { differs = differs }
    where
      differs : (x y : Table) (i j : ℕ) → IsEntry rows cols s i j → AgreeBefore m (IsEntry rows cols s) place x y i j
          → Cong m (product cols (view s x) u i j + u j j * y i j) (product cols (view s y) u i j + u j j * x i j)
      differs x y i j within before =
          Cong-by (rw (view-work s x i j work within.inside, view-work s y i j work within.inside) at
          (sum_below-one_differs m cols j (λ k. view s x i k * u k j) (λ k. view s y i k * u k j) within.col
          (λ k col apart. each k col (reads i k j within.row col within.col apart)))) (omega arith)
        where
          each : (k : ℕ) → k < cols → (u k j ≡ 0) ⊎ (place i k < place i j) → Cong m (view s x i k * u k j) (view s y i k * u k j)
          each k col (inl none) = Cong-from_same (rw none (omega arith))
          each k col (inr earlier) = Cong-by (Cong-scale (u k j)
              (view-work_Cong m s x y i k work (λ inside. before i k (record { row = within.row; col = col; inside = inside }) earlier))) (omega arith)

  module _ (t u : Table) (reads_rows : (i k j : ℕ) → i < rows → k < rows → j < cols → k ≢ i → (t i k ≡ 0) ⊎ (place k j < place i j))
      (reads_cols : (i k j : ℕ) → i < rows → k < cols → j < cols → k ≢ j → (u k j ≡ 0) ⊎ (place i k < place i j)) where
    -- T * X + X * U
    pub IsSystem-sylvester_plus : IsSystem m (IsEntry rows cols s) place
        (λ x i j. product rows t (view s x) i j + product cols (view s x) u i j) (λ x i j. t i i + u j j)
    IsSystem-sylvester_plus = IsSystem-add _ _ _ _ _ _ _ (IsSystem-left t reads_rows) (IsSystem-right u reads_cols)

    -- T * X - X * U, with m - 1 for -1
    pub IsSystem-sylvester_minus : IsSystem m (IsEntry rows cols s) place
        (λ x i j. product rows t (view s x) i j + (m - 1) * product cols (view s x) u i j) (λ x i j. t i i + (m - 1) * u j j)
    IsSystem-sylvester_minus = IsSystem-add _ _ _ _ _ _ _ (IsSystem-left t reads_rows) (IsSystem-scale (m - 1) _ _ _ _ _ (IsSystem-right u reads_cols))

-- a subtracted number moved to the other side, as m - 1 times itself
pub Cong-to_negative : (m a b r : ℕ) → 2 ≤ m → Cong m a (r + b) → Cong m (a + (m - 1) * b) r
Cong-to_negative m a b r two h =
    let d : ℕ = m - 1 in
    let e : d + 1 ≡ m = omega arith in
    Cong-by (Cong-add h (Cong-multiple m b)) (omega (arith, ap (λ (k : ℕ). b * k) e))

-- and back
pub Cong-from_negative : (m a b r : ℕ) → 2 ≤ m → Cong m (a + (m - 1) * b) r → Cong m a (r + b)
Cong-from_negative m a b r two h =
    let d : ℕ = m - 1 in
    let e : d + 1 ≡ m = omega arith in
    Cong-by (Cong-add h (Cong-sym (Cong-multiple m b))) (omega (arith, ap (λ (k : ℕ). b * k) e))
