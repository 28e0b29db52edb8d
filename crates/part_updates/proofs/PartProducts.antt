-- Products that are added part by part of their inner numbers.
use Rattle.std.proofs.Common.{◌≡◌, ℕ, zero, ◌+◌, ◌-◌, ◌*◌, ◌%◌, ◌<◌, ◌≤◌, ◌⊎◌, inl, inr, Bool, true, false, List, get_or, refl, sym, ap, ◌∙◌, arith}
use Rattle.std.proofs.Math.Nat.{mod-lt, zero-mod}
use Rattle.residue_sums.specs.Residues.{Cong}
use Rattle.residue_sums.specs.Sums.{sum_below}
use Rattle.residue_sums.specs.Tables.{Table, product, times}
use Rattle.residue_sums.specs.Grids.{Grid, IsFull, AreResidues, entry}
use Rattle.residue_sums.proofs.Congruence.{Cong-by, Cong-from_multiples, Cong-add, Cong-sym, Cong-mod, mod_from_Cong, Cong-from_difference, difference_from_Cong}
use Rattle.residue_sums.proofs.Sums.{sum_below-same, sum_below-split}
use Rattle.structure_rules.specs.declared.Structure.{Structure}
use Rattle.matrix_algebra.proofs.Products.{times-assoc}
use Rattle.equation.specs.Kernels.{IsUpdated, IsUpdatedLdl, combined}
use Rattle.part_updates.proofs.PanelSums.{sum_below-range}
use Rattle.part_updates.specs.Changes.{added, panel_sum, part_product, IsChanged}

-- a table with another one added or subtracted, entry by entry
pub combined-added : (m : ℕ) (minus : Bool) (a b : Table) (i j : ℕ) → combined m minus a b i j ≡ added m minus (a i j) (b i j)
combined-added m true a b i j = refl
combined-added m false a b i j = refl

-- nothing is added to a residue
pub added-nothing : (m : ℕ) (minus : Bool) (x : ℕ) → x < m → added m minus x 0 ≡ x
added-nothing m true x below = sym (mod_from_Cong below (Cong-from_multiples m x (x + (m - 0)) 1 0 (omega arith)))
added-nothing m false x below = sym (mod_from_Cong below (Cong-from_multiples m x (x + 0) 0 0 (omega arith)))

-- two numbers one after another
pub added-twice : (m : ℕ) (minus : Bool) (x p q : ℕ) → 0 < m → added m minus (added m minus x (p % m)) (q % m) ≡ added m minus x ((p + q) % m)
added-twice m false x p q pos =
    let both : Cong m ((x + p % m) % m + q % m) (x + (p + q) % m) =
    Cong-by (Cong-add (Cong-add (Cong-mod m (x + p % m)) (Cong-mod m p)) (Cong-add (Cong-mod m q) (Cong-sym (Cong-mod m (p + q))))) (omega arith) in
    both.same
added-twice m true x p q pos =
    let fits : (z : ℕ) → z % m < m = λ z. mod-lt z pos in
    let first : Cong m ((x + (m - p % m)) % m + p % m) x = Cong-from_difference (p % m) (x + (m - p % m)) refl (omega (arith, fits p)) in
    let second : Cong m (((x + (m - p % m)) % m + (m - q % m)) % m + q % m) ((x + (m - p % m)) % m) =
    Cong-from_difference (q % m) ((x + (m - p % m)) % m + (m - q % m)) refl (omega (arith, fits q)) in
    let both : Cong m (((x + (m - p % m)) % m + (m - q % m)) % m + (p + q) % m) x =
    Cong-by (Cong-add (Cong-add second first) (Cong-add (Cong-mod m (p + q)) (Cong-add (Cong-sym (Cong-mod m p)) (Cong-sym (Cong-mod m q))))) (omega arith) in
    difference_from_Cong ((p + q) % m) (x + (m - (p + q) % m)) (fits _) both (omega (arith, fits (p + q)))

-- the sum of a row and a line of a panel that holds a column
pub panel_product : (m : ℕ) (a b : Table) (i j left inner height : ℕ) (panel : List ℕ) → left ≤ j
    → ((k : ℕ) → k < height → get_or panel ((j - left) * height + k) 0 ≡ b (inner + k) j)
    → panel_sum a i inner panel height (j - left) % m ≡ part_product m inner height a b i j
panel_product m a b i j left inner height panel start holds =
    ap (λ (x : ℕ). x % m) (sum_below-same (λ k. a i (inner + k) * get_or panel ((j - left) * height + k) 0) (λ k. a i (inner + k) * b (inner + k) j) height
    (λ k below. rw (holds k below) refl))

-- inner numbers at which the second factor is zero
pub part_product-needed : (m : ℕ) (a b : Table) (i j inner height from n : ℕ) → inner ≤ from → from + n ≤ inner + height
    → ((k : ℕ) → inner ≤ k → k < inner + height → (k < from) ⊎ (from + n ≤ k) → b k j ≡ 0)
    → part_product m from n a b i j ≡ part_product m inner height a b i j
part_product-needed m a b i j inner height from n start within zeros =
    let at : (k : ℕ) → from + k ≡ inner + (from - inner + k) = λ k. omega arith in
    let beside : (k : ℕ) → (k < from - inner) ⊎ (from - inner + n ≤ k) → (inner + k < from) ⊎ (from + n ≤ inner + k) =
    λ k out. elim out [ inl before ↦ inl (omega arith) | inr behind ↦ inr (omega arith) ] in
    ap (λ (x : ℕ). x % m) (sum_below-same (λ k. a i (from + k) * b (from + k) j)
    (λ k. a i (inner + (from - inner + k)) * b (inner + (from - inner + k)) j) n (λ k below. rw (at k) refl)
    ∙ sym (sum_below-range (λ k. a i (inner + k) * b (inner + k) j) height (from - inner) n (omega arith)
    (λ k below out. rw (zeros (inner + k) (omega arith) (omega arith) (beside k out)) (omega arith))))

module _ (m : ℕ) (minus : Bool) (s : Structure) (a b : Table) where
  -- no inner numbers
  pub updated_none : (g : Grid) → IsFull g → AreResidues m g → ((i j : ℕ) → i < g.rows → j < g.cols → entry g i j < m) → IsUpdated m minus s zero a b g g
  updated_none g full residues each = record {
    rows = refl;
    cols = refl;
    full = full;
    residues = residues;
    equation = λ i j row col inside. sym (combined-added m minus (entry g) (times m zero a b) i j
        ∙ ap (λ (x : ℕ). added m minus (entry g i j) x) (zero-mod m) ∙ added-nothing m minus (entry g i j) (each i j row col));
    others = λ i j row col z. refl;
  }

  -- further inner numbers
  pub updated_more : (n h : ℕ) (old mid new : Grid) → 0 < m → IsUpdated m minus s n a b old mid → IsChanged m minus s (part_product m n h a b) 0 old.rows 0 old.cols mid new
      → IsFull new → AreResidues m new → IsUpdated m minus s (n + h) a b old new
  updated_more n h old mid new pos so_far next full residues = record {
    rows = next.rows ∙ so_far.rows;
    cols = next.cols ∙ so_far.cols;
    full = full;
    residues = residues;
    equation = λ i j row col inside. next.here i j (record { from_top = omega arith; above_bottom = row; from_left = omega arith; before_right = col }) inside
        ∙ ap (λ (x : ℕ). added m minus x (part_product m n h a b i j)) (so_far.equation i j row col inside ∙ combined-added m minus (entry old) (times m n a b) i j)
        ∙ added-twice m minus (entry old i j) (product n a b i j) (sum_below (λ k. a i (n + k) * b (n + k) j) h) pos
        ∙ ap (λ (x : ℕ). added m minus (entry old i j) (x % m)) (sym (sum_below-split (λ k. a i k * b k j) n h))
        ∙ sym (combined-added m minus (entry old) (times m (n + h) a b) i j);
    others = λ i j row col z. next.zero i j (record { from_top = omega arith; above_bottom = row; from_left = omega arith; before_right = col }) z ∙ so_far.others i j row col z;
  }

-- a product of three factors, subtracted
pub updated_ldl : (m : ℕ) (s : Structure) (n : ℕ) (a d b : Table) (old new : Grid) → IsUpdated m true s n a (times m n d b) old new → IsUpdatedLdl m s n a d b old new
updated_ldl m s n a d b old new updated = record {
  rows = updated.rows;
  cols = updated.cols;
  full = updated.full;
  residues = updated.residues;
  equation = λ i j row col inside. updated.equation i j row col inside
      ∙ ap (λ (x : ℕ). (entry old i j + (m - x)) % m) (sym (times-assoc m n n a d b i j));
  others = updated.others;
}
