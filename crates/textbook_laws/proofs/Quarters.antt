-- A matrix that is cut in two, block by block.
use Rattle.std.proofs.Common.{◌≡◌, ℕ, ◌+◌, ◌-◌, ◌<◌, inl, inr, subst, arith}
use Rattle.std.proofs.lemmas.Bool.{cases_lt}

-- what holds in each of the four blocks holds everywhere
module _ (n0 n1 : ℕ) (P : ℕ → ℕ → Type 0) (leading : (i j : ℕ) → i < n0 → j < n0 → P i j) (right : (i j : ℕ) → i < n0 → j < n1 → P i (n0 + j))
    (below : (i j : ℕ) → i < n1 → j < n0 → P (n0 + i) j) (trailing : (i j : ℕ) → i < n1 → j < n1 → P (n0 + i) (n0 + j)) where
  above_cut : (r c : ℕ) → r < n0 → c < n0 + n1 → P r c
  above_cut r c row col = elim (cases_lt c n0) [
    | inl left ↦ leading r c row left
    | inr past ↦ (let at : n0 + (c - n0) ≡ c = omega arith in subst (λ z. P r z) at (right r (c - n0) row (omega arith)))
  ]

  below_cut : (i c : ℕ) → i < n1 → c < n0 + n1 → P (n0 + i) c
  below_cut i c row col = elim (cases_lt c n0) [
    | inl left ↦ below i c row left
    | inr past ↦ (let at : n0 + (c - n0) ≡ c = omega arith in subst (λ z. P (n0 + i) z) at (trailing i (c - n0) row (omega arith)))
  ]

  pub by_quarters : (r c : ℕ) → r < n0 + n1 → c < n0 + n1 → P r c
  by_quarters r c row col = elim (cases_lt r n0) [
    | inl up ↦ above_cut r c up col
    | inr past ↦ (let at : n0 + (r - n0) ≡ r = omega arith in subst (λ z. P z c) at (below_cut (r - n0) c (omega arith) col))
  ]
