-- The first bad pivot among factors of the leading blocks of a table: there is at most one, and none where all pivots are units. One
-- story for L * U and for L * D * L'. Cited by LuFactors and LdlFactors.
use Rattle.std.proofs.Common.{◌≡◌, ℕ, zero, suc, ◌+◌, ◌<◌, ◌≤◌, inl, inr, arith}
use Rattle.std.proofs.lemmas.Bool.{cases_order}
use Rattle.residue_sums.specs.Residues.{Cong, IsUnit}
use Rattle.residue_sums.specs.Tables.{Table}
use Rattle.residue_sums.proofs.Congruence.{Cong-sym, IsUnit-Cong}
use Rattle.residue_sums.proofs.Inverses.{IsUnit-or_not}

-- the leading block of size k + 1 has factors, the second of which has units for its first k pivots, and none for the last
pub record BadFactors (m : ℕ) (factors_of : ℕ → Table → Table → Type 0) (k : ℕ) : Type 0 where
  pub l : Table
  pub d : Table
  pub factors : factors_of (k + 1) l d
  pub units : (i : ℕ) → i < k → IsUnit m (d i i)
  pub bad : ¬ (IsUnit m (d k k))

-- what holds of factors of one size: each leading block has them too, and the pivots of two pairs agree up to the first bad one
module _ (m : ℕ) (two : 2 ≤ m) (factors_of : ℕ → Table → Table → Type 0)
    (leading : (n k : ℕ) (l d : Table) → k ≤ n → factors_of n l d → factors_of k l d)
    (agree : (n : ℕ) (l d l' d' : Table) → factors_of n l d → factors_of n l' d' → ((i : ℕ) → i + 1 < n → IsUnit m (d i i)) → (i : ℕ) → i < n → Cong m (d i i) (d' i i)) where
  -- a bad pivot is a unit in no other factors that reach it
  bad_elsewhere : (l d : Table) (k : ℕ) → BadFactors m factors_of k → factors_of (k + 1) l d → ¬ (IsUnit m (d k k))
  bad_elsewhere l d k bad factors unit =
      bad.bad (IsUnit-Cong m (d k k) (bad.d k k)
      (Cong-sym (agree (k + 1) bad.l bad.d l d bad.factors factors (λ i before. bad.units i (omega arith)) k (omega arith))) unit)

  -- there is at most one bad pivot
  pub one_bad : (k k' : ℕ) → BadFactors m factors_of k → BadFactors m factors_of k' → k ≡ k'
  one_bad k k' bad bad' = elim (cases_order k k') [
    | inl same ↦ same
    | inr other ↦ elim other [
      | inl less ↦ absurd (earlier k k' bad bad' less)
      | inr more ↦ absurd (earlier k' k bad' bad more)
    ]
  ]
    where
      earlier : (a b : ℕ) → BadFactors m factors_of a → BadFactors m factors_of b → a < b → ⊥
      earlier a b first second h = bad_elsewhere second.l second.d a first (leading (b + 1) (a + 1) second.l second.d (omega arith) second.factors) (second.units a h)

  -- factors whose pivots are units leave none
  pub none_bad : (n : ℕ) (l d : Table) → factors_of n l d → ((i : ℕ) → i < n → IsUnit m (d i i)) → (k : ℕ) → k < n → ¬ (BadFactors m factors_of k)
  none_bad n l d factors units k within bad = bad_elsewhere l d k bad (leading n (k + 1) l d (omega arith) factors) (units k within)

  -- where there is none, all pivots are units
  pub all_units : (n : ℕ) (l d : Table) → factors_of n l d → ((k : ℕ) → k < n → ¬ (BadFactors m factors_of k)) → (i : ℕ) → i < n → IsUnit m (d i i)
  all_units n l d factors none i row = below n i row row
    where
      below : (q i : ℕ) → i < q → i < n → IsUnit m (d i i)
      below zero i h row = absurd (omega arith)
      below (suc q) i h row = elim (IsUnit-or_not m (d i i) two) [
        | inl unit ↦ unit
        | inr bad ↦ absurd (none i row (record {
          l = l;
          d = d;
          factors = leading n (i + 1) l d (omega arith) factors;
          units = λ j before. below q j (omega arith) (omega arith);
          bad = bad;
        }))
      ]
