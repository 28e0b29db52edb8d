-- What an entry's equation reads: entries that are found, in rows and columns up to the entry's own, its column's pivot among them.
use Rattle.std.proofs.Common.{◌≡◌, ℕ, min, ◌+◌, ◌*◌, ◌<◌, ◌≤◌, inl, inr, refl, ap₂, arith}
use Rattle.std.proofs.lemmas.Bool.{cases_lt}
use Rattle.residue_sums.specs.Tables.{Table}
use Rattle.residue_sums.proofs.Sums.{sum_below-same}
use Rattle.structure_rules.specs.Structures.{IsInside}
use Rattle.matrix_algebra.proofs.Packed.{pivot_of, pivot_of-lower, pivot_of-upper}
use Rattle.part_factors.specs.declared.factoring.FactorKind.{FactorKind}
use Rattle.part_factors.specs.declared.factoring.FactorKind.TheVariants.{Lu, Ldl}
use Rattle.part_factors.specs.ColumnFactors.{found_in, left_of}

pub record IsLeading (kind : FactorKind) : Type 0 where
  pub same : (x y : Table) (i j : ℕ) → IsInside (found_in kind) i j
      → ((a b : ℕ) → a ≤ i → b ≤ j → IsInside (found_in kind) a b → x a b ≡ y a b) → left_of kind x i j ≡ left_of kind y i j
  pub diagonal : (i : ℕ) → IsInside (found_in kind) i i

-- the pivot that an entry is divided by stands in its column, in an earlier row
pivot_of-same : (x y : Table) (i j : ℕ) → (j < i → x j j ≡ y j j) → pivot_of x i j ≡ pivot_of y i j
pivot_of-same x y i j same = elim (cases_lt j i) [
  | inl below ↦ rw (pivot_of-lower x i j below, pivot_of-lower y i j below) (same below)
  | inr above ↦ rw (pivot_of-upper x i j above, pivot_of-upper y i j above) refl
]

IsLeading-lu : IsLeading Lu
IsLeading-lu = record {
  same = λ x y i j inside agree. ap₂ (λ (a b : ℕ). a + b)
      (sum_below-same (λ k. x i k * x k j) (λ k. y i k * y k j) (min i j) (λ k below. ap₂ (λ (a b : ℕ). a * b)
      (agree i k (omega arith) (omega arith) (λ none. none)) (agree k j (omega arith) (omega arith) (λ none. none))))
      (ap₂ (λ (a b : ℕ). a * b) (pivot_of-same x y i j (λ below. agree j j (omega arith) (omega arith) (λ none. none))) (agree i j (omega arith) (omega arith) inside));
  diagonal = λ i none. none;
}

IsLeading-ldl : IsLeading Ldl
IsLeading-ldl = record {
  same = λ x y i j inside agree. let low : j ≤ i = omega (arith, inside) in ap₂ (λ (a b : ℕ). a + b)
      (sum_below-same (λ k. x i k * (x k k * x j k)) (λ k. y i k * (y k k * y j k)) j (λ k below. ap₂ (λ (a b : ℕ). a * b)
      (agree i k (omega arith) (omega arith) (λ over. omega arith))
      (ap₂ (λ (a b : ℕ). a * b) (agree k k (omega arith) (omega arith) (λ over. omega arith)) (agree j k (omega arith) (omega arith) (λ over. omega arith)))))
      (ap₂ (λ (a b : ℕ). a * b) (pivot_of-same x y i j (λ below. agree j j (omega arith) (omega arith) (λ over. omega arith))) (agree i j (omega arith) (omega arith) inside));
  diagonal = λ i over. omega arith;
}

pub leading : (kind : FactorKind) → IsLeading kind
leading Lu = IsLeading-lu
leading Ldl = IsLeading-ldl
