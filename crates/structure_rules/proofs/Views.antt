-- What a view has at each place. Cited by kernels and tasks, which read views, skip zero blocks and transpose.
use Rattle.std.proofs.Common.{◌≡◌, ◌≢◌, ℕ, ◌+◌, ◌<◌, ◌≤◌, ◌⊎◌, inl, inr, arith}
use Rattle.std.proofs.lemmas.Bool.{cases_eq, cases_lt}
use Rattle.std.proofs.lemmas.Bool.Decides.{nat_tests}
use Rattle.residue_sums.specs.Tables.{Table, transpose}
use Rattle.structure_rules.specs.declared.Structure.{Structure}
use Rattle.structure_rules.specs.declared.Structure.TheVariants.{General, Lower, UnitLower, Upper, UnitUpper, Diagonal, Symmetric}
use Rattle.structure_rules.specs.Structures.{view, IsZero, IsInside, IsOne, IsEntry, IsWorkStructure, stored_of, transpose_of}

-- a place is zero by structure or inside
pub IsZero-or_inside : (s : Structure) (i j : ℕ) → IsZero s i j ⊎ IsInside s i j
IsZero-or_inside General i j = inr (λ h. h)
IsZero-or_inside Lower i j = elim (cases_lt i j) [ inl h ↦ inl h | inr h ↦ inr (λ k. omega arith) ]
IsZero-or_inside UnitLower i j = elim (cases_lt i j) [ inl h ↦ inl h | inr h ↦ inr (λ k. omega arith) ]
IsZero-or_inside Upper i j = elim (cases_lt j i) [ inl h ↦ inl h | inr h ↦ inr (λ k. omega arith) ]
IsZero-or_inside UnitUpper i j = elim (cases_lt j i) [ inl h ↦ inl h | inr h ↦ inr (λ k. omega arith) ]
IsZero-or_inside Diagonal i j = elim (cases_eq i j) [ inl h ↦ inr (λ k. k h) | inr h ↦ inl h ]
IsZero-or_inside Symmetric i j = inr (λ h. h)

-- a zero place of a view is 0, whatever is stored
pub view-zero : (s : Structure) (a : Table) (i j : ℕ) → IsZero s i j → view s a i j ≡ 0
view-zero s a i j h = grind (arith, nat_tests)

-- the diagonal of a unit structure is 1, whatever is stored
pub view-one : (s : Structure) (a : Table) (i j : ℕ) → IsOne s i j → view s a i j ≡ 1
view-one s a i j h = grind (arith, nat_tests)

-- any other place of a view is the entry at the stored place
pub view-stored : (s : Structure) (a : Table) (i j : ℕ) → IsInside s i j → ¬ (IsOne s i j)
    → view s a i j ≡ a (stored_of s i j).row (stored_of s i j).col
view-stored s a i j h k = grind (arith, nat_tests)

-- a diagonal block of a view is the view of the stored diagonal block
pub view-diagonal_block : (s : Structure) (a : Table) (first r c : ℕ)
    → view s a (first + r) (first + c) ≡ view s (λ i j. a (first + i) (first + j)) r c
view-diagonal_block s a first r c = grind (arith, nat_tests)

-- the transpose of a view is the view of the transpose, but where it is symmetric
pub view-transpose : (s : Structure) (a : Table) (i j : ℕ) → s ≢ Symmetric
    → view (transpose_of s) (transpose a) i j ≡ view s a j i
view-transpose s a i j h = grind (arith, nat_tests)

-- a symmetric view is its own transpose
pub view-symmetric : (a : Table) (i j : ℕ) → view Symmetric a i j ≡ view Symmetric a j i
view-symmetric a i j = grind (arith, nat_tests)

-- a place is an entry of the structure or is none
pub IsEntry-or_not : (rows cols : ℕ) (s : Structure) (i j : ℕ) → IsEntry rows cols s i j ⊎ ¬ (IsEntry rows cols s i j)
IsEntry-or_not rows cols s i j = go (cases_lt i rows) (cases_lt j cols) (IsZero-or_inside s i j)
  where
    go : (i < rows) ⊎ (rows ≤ i) → (j < cols) ⊎ (cols ≤ j) → IsZero s i j ⊎ IsInside s i j → IsEntry rows cols s i j ⊎ ¬ (IsEntry rows cols s i j)
    go (inl row) (inl col) (inr inside) = inl (record { row = row; col = col; inside = inside })
    go (inr past) _ _ = inr (λ e. let row : i < rows = e.row in omega arith)
    go (inl row) (inr past) _ = inr (λ e. let col : j < cols = e.col in omega arith)
    go (inl row) (inl col) (inl zero_place) = inr (λ e. e.inside zero_place)

-- a matrix that a solve writes is read as it is stored
pub view-work : (s : Structure) (a : Table) (i j : ℕ) → IsWorkStructure s → IsInside s i j → view s a i j ≡ a i j
view-work s a i j work h = grind (arith, nat_tests)
