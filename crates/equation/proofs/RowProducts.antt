-- Sums along a row: one more product fits in 128 bits, and each step adds the next product.
use Rattle.std.proofs.Common.{◌≡◌, ℕ, ◌+◌, ◌*◌, ◌%◌, ◌<◌, ◌≤◌, ◌^◌, min, max, true, inl, inr, refl, sym, ap, ◌∙◌, arith}
use Rattle.std.proofs.Math.Nat.{mod-eq_of_lt, mod-lt}
use Rattle.std.proofs.lemmas.Bool.{cases_lt}
use Rattle.std.proofs.lemmas.Nat.{mul-lt}
use Rattle.residue_sums.specs.Residues.{IsModulus}
use Rattle.residue_sums.specs.Sums.{sum_below}
use Rattle.residue_sums.specs.Tables.{Table, oriented, product, times}
use Rattle.residue_sums.specs.Grids.{Grid, AreResidues, entry}
use Rattle.residue_sums.proofs.Sums.{sum_below-le, sum_below-only, sum_below-shrink, sum_below-zero}
use Rattle.structure_rules.specs.declared.Structure.TheVariants.{Diagonal, UnitLower}
use Rattle.structure_rules.specs.Structures.{view}
use Rattle.structure_rules.proofs.Views.{view-zero}
use Rattle.matrix_algebra.proofs.Packed.{view-diagonal_here}
use Rattle.equation.specs.Pivots.{HasResidues}
use Rattle.equation.proofs.FactorResidues.{HasResidues-view}

-- the sum of so many products of numbers below 2^32, and one more
module _ (f g : Table) (f_small : HasResidues (2 ^ 32) f) (g_small : HasResidues (2 ^ 32) g) (i j : ℕ) where
  one_product : (k : ℕ) → f i k * g k j ≤ 2 ^ 64
  one_product k = omega (arith, mul-lt (f i k) (g k j) (2 ^ 32) (2 ^ 32) (f_small i k) (g_small k j))

  pub room_for_product : (k s x : ℕ) → k < 2 ^ 32 → s ≡ product k f g i j → x ≡ f i k → s + x * g k j < 2 ^ 128
  room_for_product k s x few s_is x_is =
      let sum_small : sum_below (λ p. f i p * g p j) k ≤ k * 2 ^ 64 = sum_below-le (λ p. f i p * g p j) k (2 ^ 64) (λ p below. one_product p) in
      let product_small : x * g k j ≤ 2 ^ 64 = rw x_is (one_product k) in
      omega arith

-- where row i of f has zeros before one place, and column j of g before another, a product starts at the second of them, or before it
pub product-starts : (f g : Table) (i j a b start : ℕ) → start ≤ max a b → ((k : ℕ) → k < a → f i k ≡ 0) → ((k : ℕ) → k < b → g k j ≡ 0)
    → product start f g i j ≡ 0
product-starts f g i j a b start few row col = sum_below-zero (λ k. f i k * g k j) start (λ k below. elim (cases_lt k a) [
  | inl before ↦ rw (row k before) (omega arith)
  | inr behind ↦ rw (col k (omega arith)) (omega arith)
])

-- where row i of f has zeros from one place on, and column j of g from another, a product ends at the first of them, or behind it
pub product-ends : (n : ℕ) (f g : Table) (i j a b end : ℕ) → min a b ≤ end → end ≤ n → ((k : ℕ) → a ≤ k → k < n → f i k ≡ 0)
    → ((k : ℕ) → b ≤ k → k < n → g k j ≡ 0) → product end f g i j ≡ product n f g i j
product-ends n f g i j a b end first within row col = sym (sum_below-shrink (λ k. f i k * g k j) n end within (λ k past below. elim (cases_lt k a) [
  | inl before ↦ rw (col k (omega arith) below) (omega arith)
  | inr behind ↦ rw (row k behind below) (omega arith)
]))

-- residues of a modulus below 2^32 are such numbers
pub HasResidues-small : (m : ℕ) (a : Table) → m < 2 ^ 32 → HasResidues m a → HasResidues (2 ^ 32) a
HasResidues-small m a small residues i j = let below : a i j < m = residues i j in omega arith

-- an entry of L * D, where a table packs them
pub scaled_entry : (m n : ℕ) (w : Table) (i k : ℕ) → k < n → times m n (view UnitLower w) (view Diagonal w) i k ≡ (view UnitLower w i k * w k k) % m
scaled_entry m n w i k below = ap (λ (v : ℕ). v % m)
    (sum_below-only (λ p. view UnitLower w i p * view Diagonal w p k) n k below
    (λ p within apart. rw (view-zero Diagonal w p k apart) (omega arith))
    ∙ rw (view-diagonal_here w k k refl) refl)

-- right of its diagonal L * D is zero
pub scaled_above : (m n : ℕ) (w : Table) (i k : ℕ) → 0 < m → i < k → k < n → times m n (view UnitLower w) (view Diagonal w) i k ≡ 0
scaled_above m n w i k some above below =
    let none : 0 * w k k ≡ 0 = omega arith in
    scaled_entry m n w i k below ∙ ap (λ (v : ℕ). (v * w k k) % m) (view-zero UnitLower w i k above) ∙ ap (λ (v : ℕ). v % m) none ∙ mod-eq_of_lt some

-- what L * D * L' is a product of
module _ (m n : ℕ) (w : Grid) (modulus : IsModulus m) (residues : AreResidues m w) where
  pub scaled_small : HasResidues (2 ^ 32) (times m n (view UnitLower (entry w)) (view Diagonal (entry w)))
  scaled_small = HasResidues-small m (times m n (view UnitLower (entry w)) (view Diagonal (entry w))) modulus.below_limit
      (λ i j. let two : 2 ≤ m = modulus.at_least_two in mod-lt _ (omega arith))

  pub lower_small : HasResidues (2 ^ 32) (oriented true (view UnitLower (entry w)))
  lower_small = HasResidues-small m (oriented true (view UnitLower (entry w))) modulus.below_limit (HasResidues-view m true UnitLower w modulus.at_least_two residues)
