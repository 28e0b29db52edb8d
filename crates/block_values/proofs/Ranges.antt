-- A dimension cut into parts of any lengths: sums part by part, and the part of an index.
use Rattle.std.proofs.Common.{◌≡◌, ℕ, zero, suc, ◌+◌, ◌*◌, ◌-◌, ◌<◌, ◌≤◌, inl, inr, refl, ap, arith}
use Rattle.std.proofs.lemmas.Bool.{cases_lt, cases_eq}
use Rattle.residue_sums.specs.Residues.{Cong}
use Rattle.residue_sums.specs.Sums.{sum_below}
use Rattle.residue_sums.specs.Tables.{Table}
use Rattle.residue_sums.proofs.Congruence.{Cong-trans, Cong-mod, Cong-from_same}
use Rattle.residue_sums.proofs.Sums.{sum_below-same, sum_below-Cong, sum_below-split, sum_below-zero}
use Rattle.structure_rules.specs.declared.Structure.{Structure}
use Rattle.structure_rules.specs.declared.Structure.TheVariants.{General, Lower, UnitLower, Upper, UnitUpper, Diagonal, Symmetric}
use Rattle.structure_rules.specs.Structures.{IsZero}
use Rattle.block_values.specs.Cuts.{Range, IsIn, Starts, part, range_sum, times_over}

-- sums over a range whose terms are equal, or zero
pub range_sum-same : (g : Range) (f h : ℕ → ℕ) → ((k : ℕ) → IsIn g k → f k ≡ h k) → range_sum g f ≡ range_sum g h
range_sum-same g f h each = sum_below-same (λ k. f (g.first + k)) (λ k. h (g.first + k)) (g.past - g.first) (λ k below. each (g.first + k) (omega arith, omega arith))

pub range_sum-zero : (g : Range) (f : ℕ → ℕ) → ((k : ℕ) → IsIn g k → f k ≡ 0) → range_sum g f ≡ 0
range_sum-zero g f each = sum_below-zero (λ k. f (g.first + k)) (g.past - g.first) (λ k below. each (g.first + k) (omega arith, omega arith))

module _ (starts : Starts) (d : ℕ) (from_zero : starts d 0 ≡ 0) (ascending : (p : ℕ) → starts d p ≤ starts d (suc p)) where
  -- a sum part by part
  pub sum_of_parts : (f : ℕ → ℕ) (c : ℕ) → sum_below (λ p. range_sum (part starts d p) f) c ≡ sum_below f (starts d c)
  sum_of_parts f zero = rw from_zero refl
  sum_of_parts f (suc c) =
      let up : starts d c ≤ starts d (suc c) = ascending c in
      let whole : starts d c + (starts d (suc c) - starts d c) ≡ starts d (suc c) = omega arith in
      omega (arith, sum_of_parts f c, sum_below-split f (starts d c) (starts d (suc c) - starts d c), ap (sum_below f) whole)

  -- a product of tables part by part, each reduced
  pub product_of_parts : (m : ℕ) (a b : Table) (r c n : ℕ)
      → Cong m (sum_below (λ p. times_over m (part starts d p) a b r c) n) (sum_below (λ k. a r k * b k c) (starts d n))
  product_of_parts m a b r c n = Cong-trans
      (sum_below-Cong m (λ p. times_over m (part starts d p) a b r c) (λ p. range_sum (part starts d p) (λ k. a r k * b k c)) n (λ p h. Cong-mod m _))
      (Cong-from_same (sum_of_parts (λ k. a r k * b k c) n))

  -- the part of an index
  pub part_of : (k c : ℕ) → k < starts d c → (p : ℕ) × (p < c) × IsIn (part starts d p) k
  part_of k zero below = absurd (omega (arith, from_zero))
  part_of k (suc c) below = elim (cases_lt k (starts d c)) [
    | inl less ↦ (let found = part_of k c less in (found.0, omega (arith, found.1), found.2))
    | inr not_less ↦ (c, omega arith, (not_less, below))
  ]

  -- parts begin in order
  pub starts-le : (p q : ℕ) → p ≤ q → starts d p ≤ starts d q
  starts-le p zero le = let same : p ≡ 0 = omega arith in rw same (omega arith)
  starts-le p (suc q) le = elim (cases_eq p (suc q)) [
    | inl same ↦ rw same (omega arith)
    | inr other ↦ omega (arith, starts-le p q (omega arith), ascending q)
  ]

  -- indices of an earlier part are less
  pub parts-lt : (p q r c : ℕ) → p < q → IsIn (part starts d p) r → IsIn (part starts d q) c → r < c
  parts-lt p q r c less r_in c_in = omega (arith, starts-le (suc p) q less, r_in.1, c_in.0)

  -- the places of a zero block are zero places
  pub IsZero-part : (s : Structure) (i j r c : ℕ) → IsIn (part starts d i) r → IsIn (part starts d j) c → IsZero s i j → IsZero s r c
  IsZero-part General i j r c r_in c_in h = h
  IsZero-part Lower i j r c r_in c_in h = parts-lt i j r c h r_in c_in
  IsZero-part UnitLower i j r c r_in c_in h = parts-lt i j r c h r_in c_in
  IsZero-part Upper i j r c r_in c_in h = parts-lt j i c r h c_in r_in
  IsZero-part UnitUpper i j r c r_in c_in h = parts-lt j i c r h c_in r_in
  IsZero-part Diagonal i j r c r_in c_in h = λ e. elim (cases_lt i j) [
    | inl less ↦ (let apart : r < c = parts-lt i j r c less r_in c_in in absurd (omega arith))
    | inr not_less ↦ (elim (cases_eq i j) [
      | inl same ↦ h same
      | inr other ↦ (let apart : c < r = parts-lt j i c r (omega arith) c_in r_in in absurd (omega arith))
    ])
  ]
  IsZero-part Symmetric i j r c r_in c_in h = h
