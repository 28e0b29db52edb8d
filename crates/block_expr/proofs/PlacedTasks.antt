-- A task that is put in front of the first one that it is earlier than.
use Rattle.std.proofs.Common.{◌≡◌, ℕ, zero, suc, ◌+◌, ◌<◌, inl, inr, subst, List, [], ◌∷◌, length, get_or, true, false, refl, ap, arith}
use Rattle.std.specs.Prelude.{insert}
use Rattle.std.proofs.lemmas.Bool.{cases_lt}
use Rattle.std.proofs.lemmas.List.{get_or_default}
use Rattle.operation_spec.specs.declared.operation.Operation.{Operation}
use Rattle.operation_spec.specs.declared.task.Task.{Task}
use Rattle.task_graph.specs.Order.{is_earlier}
use Rattle.block_values.specs.Orders.{placed}

module _ (op : Operation) (a : Task) where
  -- in front of the first one
  placed-first : (xs : List Task) (at : ℕ) → at < length xs → ((k : ℕ) → k < at → is_earlier op a (get_or xs k a) ≡ false)
      → is_earlier op a (get_or xs at a) ≡ true → insert xs at a ≡ placed op a xs
  placed-first [] at below others here = absurd (omega arith)
  placed-first (x ∷ xs) zero below others here = rw here refl
  placed-first (x ∷ xs) (suc at) below others here =
      rw (others zero (omega arith)) (ap (λ ys. x ∷ ys) (placed-first xs at (omega arith) (λ k k_below. others (suc k) (omega arith)) here))

  pub placed-at : (xs : List Task) (at : ℕ) (d : Task) → at < length xs → ((k : ℕ) → k < at → is_earlier op a (get_or xs k a) ≡ false)
      → is_earlier op a (get_or xs at d) ≡ true → insert xs at a ≡ placed op a xs
  placed-at xs at d below others here = placed-first xs at below others (subst (λ z. is_earlier op a z ≡ true) (get_or_default xs at d a below) here)

  -- one more that it isn't earlier than
  pub none_yet : (xs : List Task) (at : ℕ) (d : Task) → at < length xs → ((k : ℕ) → k < at → is_earlier op a (get_or xs k a) ≡ false)
      → is_earlier op a (get_or xs at d) ≡ false → (k : ℕ) → k < at + 1 → is_earlier op a (get_or xs k a) ≡ false
  none_yet xs at d below others here k k_below = elim (cases_lt k at) [
    | inl less ↦ others k less
    | inr not_less ↦ (let same : k ≡ at = omega arith in rw same (subst (λ z. is_earlier op a z ≡ false) (get_or_default xs at d a below) here))
  ]

  -- behind all, where there is none
  pub placed-last : (xs : List Task) → ((k : ℕ) → k < length xs → is_earlier op a (get_or xs k a) ≡ false) → insert xs (length xs) a ≡ placed op a xs
  placed-last [] others = refl
  placed-last (x ∷ xs) others = rw (others zero (omega arith)) (ap (λ ys. x ∷ ys) (placed-last xs (λ k k_below. others (suc k) (omega arith))))
