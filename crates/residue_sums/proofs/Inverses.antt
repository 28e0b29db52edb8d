-- The inverse of a unit, found by a search. Cited where a solution is shown to exist, and where a pivot is a unit or is none.
use Rattle.std.proofs.Common.{◌≡◌, ◌≢◌, ℕ, zero, suc, ◌*◌, ◌%◌, ◌<◌, ◌≤◌, ◌⊎◌, inl, inr, sym, ◌∙◌, arith}
use Rattle.std.proofs.Math.Nat.{mod-eq_of_lt}
use Rattle.std.proofs.lemmas.Bool.{cases_eq}
use Rattle.std.proofs.lemmas.Bool.Decides.{nat_tests}
use Rattle.residue_sums.specs.Residues.{Cong, IsUnit}
use Rattle.residue_sums.specs.Inverses.{inverse_below, inverse_of}
use Rattle.residue_sums.proofs.Congruence.{IsUnit-from_inverse}

-- what a step of the search finds
found : (m a v : ℕ) → (a * v) % m ≡ 1 → inverse_below m a (suc v) ≡ v
found m a v e = grind (arith, nat_tests)

passed : (m a v : ℕ) → (a * v) % m ≢ 1 → inverse_below m a (suc v) ≡ inverse_below m a v
passed m a v ne = grind (arith, nat_tests)

-- the search finds an inverse below n where there is one
inverse_below-inverts : (m a n u : ℕ) → u < n → (a * u) % m ≡ 1 → (a * inverse_below m a n) % m ≡ 1
inverse_below-inverts m a zero u below e = absurd (omega arith)
inverse_below-inverts m a (suc v) u below e = elim (cases_eq ((a * v) % m) 1) [
  | inl here ↦ rw (found m a v here) here
  | inr other ↦ rw (passed m a v other) (inverse_below-inverts m a v u (elim (cases_eq u v) [
    | inl same ↦ absurd (other (rw (sym same) e))
    | inr ne ↦ omega arith
  ]) e)
]

-- a unit times its inverse
pub inverse_of-inverts : (m a : ℕ) → 2 ≤ m → IsUnit m a → Cong m (a * inverse_of m a) 1
inverse_of-inverts m a two unit = record { same = inverse_below-inverts m a m unit.0 unit.1 unit.2 ∙ sym (mod-eq_of_lt two) }

-- a number is a unit or is none
pub IsUnit-or_not : (m a : ℕ) → 2 ≤ m → IsUnit m a ⊎ ¬ (IsUnit m a)
IsUnit-or_not m a two = elim (cases_eq ((a * inverse_of m a) % m) 1) [
  | inl inverts ↦ inl (IsUnit-from_inverse m a (inverse_of m a) two (record { same = inverts ∙ sym (mod-eq_of_lt two) }))
  | inr none ↦ inr (λ unit. none (inverse_below-inverts m a m unit.0 unit.1 unit.2))
]
