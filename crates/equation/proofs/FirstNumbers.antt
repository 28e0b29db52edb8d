-- The first number with a property, found by going upwards. Cited where a statement has a first bad pivot or none.
use Rattle.std.proofs.Common.{◌≡◌, ℕ, zero, suc, ◌<◌, ◌⊎◌, inl, inr, arith}
use Rattle.std.proofs.lemmas.Bool.{cases_lt}

-- of the numbers below n there is a first one with the property
pub record HasFirst (IsSuch : ℕ → Type 0) (n : ℕ) : Type 0 where
  pub number : ℕ
  pub within : number < n
  pub such : IsSuch number
  pub first : (j : ℕ) → j < number → ¬ (IsSuch j)

-- there is one, or there is none, where it can be told of a number as soon as no earlier one has the property
pub first_or_none : (IsSuch : ℕ → Type 0) → ((k : ℕ) → ((j : ℕ) → j < k → ¬ (IsSuch j)) → IsSuch k ⊎ ¬ (IsSuch k))
    → (n : ℕ) → HasFirst IsSuch n ⊎ ((k : ℕ) → k < n → ¬ (IsSuch k))
first_or_none IsSuch tell zero = inr (λ k below. absurd (omega arith))
first_or_none IsSuch tell (suc n) = elim (first_or_none IsSuch tell n) [
  | inl found ↦ inl (record { number = found.number; within = omega (arith, found.within); such = found.such; first = found.first })
  | inr none ↦ elim (tell n none) [
    | inl such ↦ inl (record { number = n; within = omega arith; such = such; first = none })
    | inr other ↦ inr (λ k below. elim (cases_lt k n) [
      | inl less ↦ none k less
      | inr last ↦ (let same : k ≡ n = omega arith in rw same other)
    ])
  ]
]
