-- A test of all numbers below one.
use Rattle.std.proofs.Common.{◌≡◌, ℕ, zero, suc, ◌<◌, Bool, true, false, ◌&&◌, ap, refl, sym, arith, inl, inr, ◌∙◌, ◌⊎◌}
use Rattle.std.proofs.lemmas.Bool.{cases_lt}
use Rattle.operation_spec.specs.OperationFaults.{all_below}

and_false : (b : Bool) → false ≡ (b && false)
and_false true = refl
and_false false = refl

here_or_below : (k n : ℕ) → k < suc n → (k < n) ⊎ (k ≡ n)
here_or_below k n lt = elim (cases_lt k n) [ inl below ↦ inl below | inr past ↦ inr (omega arith) ]

-- where one of them fails it, all do not pass
pub one_fails : (test : ℕ → Bool) (n k : ℕ) → k < n → test k ≡ false → false ≡ all_below n test
one_fails test zero k lt fails = absurd (omega arith)
one_fails test (suc n) k lt fails =
    elim (here_or_below k n lt) [
      | inl below ↦ ap (λ b. b && test n) (one_fails test n k below fails)
      | inr here ↦ and_false (all_below n test) ∙ ap (λ b. all_below n test && b) (sym fails ∙ ap test here)
    ]
