-- Sums of products of rows of an operand and of the lines of a panel.
use Rattle.std.proofs.Common.{◌≡◌, ℕ, zero, suc, ◌+◌, ◌-◌, ◌*◌, ◌%◌, ◌<◌, ◌≤◌, ◌⊎◌, inl, inr, min, List, get_or, refl, sym, ap, ◌∙◌, arith}
use Rattle.residue_sums.specs.Sums.{sum_below}
use Rattle.residue_sums.specs.Tables.{Table}
use Rattle.residue_sums.proofs.Sums.{sum_below-same, sum_below-zero, sum_below-shrink, sum_below-split}
use Rattle.part_updates.specs.Changes.{panel_sum}

-- terms that are zero beside a range
pub sum_below-range : (f : ℕ → ℕ) (height from n : ℕ) → from + n ≤ height → ((k : ℕ) → k < height → (k < from) ⊎ (from + n ≤ k) → f k ≡ 0)
    → sum_below f height ≡ sum_below (λ k. f (from + k)) n
sum_below-range f height from n within zeros =
    omega (
      arith,
      sum_below-shrink f height (from + n) within (λ k after below. zeros k below (inr after)),
      sum_below-split f from n,
      sum_below-zero f from (λ k before. zeros k (omega arith) (inl before)),
    )

-- a row that holds part of row i of a, which is zero in the other columns
pub sum_of_row : (a : Table) (i inner : ℕ) (row panel : List ℕ) (height from n j m : ℕ) → from + n ≤ height
    → ((k : ℕ) → k < n → get_or row k 0 ≡ a i (inner + (from + k)))
    → ((k : ℕ) → k < height → (k < from) ⊎ (from + n ≤ k) → a i (inner + k) ≡ 0)
    → sum_below (λ k. get_or row k 0 * get_or panel (j * height + (from + k)) 0) n % m ≡ panel_sum a i inner panel height j % m
sum_of_row a i inner row panel height from n j m within entries zeros =
    ap (λ (x : ℕ). x % m) (sum_below-same (λ k. get_or row k 0 * get_or panel (j * height + (from + k)) 0)
    (λ k. a i (inner + (from + k)) * get_or panel (j * height + (from + k)) 0) n (λ k below. rw (entries k below) refl)
    ∙ sym (sum_below-range (λ k. a i (inner + k) * get_or panel (j * height + k) 0) height from n within
    (λ k below beside. rw (zeros k below beside) (omega arith))))

-- three rows, of which those past the last are the last
module _ (m : ℕ) (a : Table) (row inner height lines count from n : ℕ) (first second third sums panel : List ℕ) (few : count ≤ 3) (within : from + n ≤ height)
    (zeros : (r k : ℕ) → r < count → k < height → (k < from) ⊎ (from + n ≤ k) → a (row + r) (inner + k) ≡ 0)
    (first_is : (k : ℕ) → k < n → get_or first k 0 ≡ a row (inner + (from + k)))
    (second_is : (k : ℕ) → k < n → get_or second k 0 ≡ a (row + min 1 (count - 1)) (inner + (from + k)))
    (third_is : (k : ℕ) → k < n → get_or third k 0 ≡ a (row + min 2 (count - 1)) (inner + (from + k)))
    (first_sums : (j : ℕ) → j < lines → get_or sums j 0 ≡ sum_below (λ k. get_or first k 0 * get_or panel (j * height + (from + k)) 0) n % m)
    (second_sums : (j : ℕ) → j < lines → get_or sums (lines + j) 0 ≡ sum_below (λ k. get_or second k 0 * get_or panel (j * height + (from + k)) 0) n % m)
    (third_sums : (j : ℕ) → j < lines → get_or sums (2 * lines + j) 0 ≡ sum_below (λ k. get_or third k 0 * get_or panel (j * height + (from + k)) 0) n % m) where
  -- one of them, as row i of a
  by_row : (i r : ℕ) (line : List ℕ) (j : ℕ) → r < count → i ≡ row + r → ((k : ℕ) → k < n → get_or line k 0 ≡ a i (inner + (from + k)))
      → sum_below (λ k. get_or line k 0 * get_or panel (j * height + (from + k)) 0) n % m ≡ panel_sum a (row + r) inner panel height j % m
  by_row i r line j here same line_is = sum_of_row a (row + r) inner line panel height from n j m within
      (λ k below. rw (← same) (line_is k below)) (λ k below beside. zeros r k here below beside)

  pub sums_by_row : (r j : ℕ) → r < count → j < lines → get_or sums (r * lines + j) 0 ≡ panel_sum a (row + r) inner panel height j % m
  sums_by_row zero j here col =
      let place : zero * lines + j ≡ j = omega arith in
      rw place (first_sums j col ∙ by_row row zero first j here (omega arith) first_is)
  sums_by_row (suc zero) j here col =
      let place : suc zero * lines + j ≡ lines + j = omega arith in
      rw place (second_sums j col ∙ by_row (row + min 1 (count - 1)) (suc zero) second j here (omega arith) second_is)
  sums_by_row (suc (suc zero)) j here col =
      let place : suc (suc zero) * lines + j ≡ 2 * lines + j = omega arith in
      rw place (third_sums j col ∙ by_row (row + min 2 (count - 1)) (suc (suc zero)) third j here (omega arith) third_is)
  sums_by_row (suc (suc (suc r))) j here col = absurd (omega arith)
