-- What the entries of a column are multiplied by, from row to row. Cited by the kernels that find factors entry by entry.
use Rattle.std.proofs.Common.{◌≡◌, ◌≢◌, ℕ, ◌+◌, ◌*◌, ◌<◌, ◌≤◌, inl, inr, ◌%◌, List, length, get_or, set, get_or-set_same, sym, ◌∙◌, arith}
use Rattle.std.proofs.lemmas.Bool.{cases_eq}
use Rattle.std.proofs.Math.Nat.{mod-eq_of_lt}
use Rattle.residue_sums.specs.Residues.{Cong, IsUnit}
use Rattle.residue_sums.specs.Tables.{Table}
use Rattle.residue_sums.proofs.Congruence.{IsUnit-from_inverse}

module _ (m i j scale next : ℕ) (w w' : Table) (kept : j ≢ i → w' j j ≡ w j j) (here : i ≡ j → Cong m (w' j j * next) 1 × IsUnit m (w' j j))
    (elsewhere : i ≢ j → next ≡ scale) where
  pub scale_below : (j < i → Cong m (w j j * scale) 1) → j < i + 1 → Cong m (w' j j * next) 1
  scale_below so_far up = elim (cases_eq i j) [
    | inl same ↦ (here same).0
    | inr apart ↦ rw (elsewhere apart, kept (λ e. omega arith)) (so_far (omega arith))
  ]

  pub scale_above : (i ≤ j → scale ≡ 1) → i + 1 ≤ j → next ≡ 1
  scale_above so_far up = elsewhere (λ e. omega arith) ∙ so_far (omega arith)

  pub unit_here : j ≤ i → i < j + 1 → IsUnit m (w' i i)
  unit_here begun end = let same : i ≡ j = omega arith in rw same ((here same).1)

-- the inverses of a piece's pivots, from row to row
pub inverts_more : (m i from width : ℕ) (w w' : Table) (inverses inverses' : ℕ → ℕ) → ((a : ℕ) → a < i → w' a a ≡ w a a)
    → ((j : ℕ) → j < width → from + j ≡ i → Cong m (w' i i * inverses' j) 1) → ((j : ℕ) → from + j ≢ i → inverses' j ≡ inverses j)
    → ((j : ℕ) → j < width → from + j < i → Cong m (w (from + j) (from + j) * inverses j) 1)
    → (j : ℕ) → j < width → from + j < i + 1 → Cong m (w' (from + j) (from + j) * inverses' j) 1
inverts_more m i from width w w' inverses inverses' kept here others so_far j col up = elim (cases_eq (from + j) i) [
  | inl same ↦ rw same (here j col same)
  | inr apart ↦ (let before : from + j < i = omega arith in rw (kept (from + j) before, others j apart) (so_far j col before))
]

-- the inverse of a pivot, kept at its place
pub inverse_kept : {m' a' : ℕ} (m a : ℕ) (xs : List ℕ) (at j v : ℕ) → 2 ≤ m → m' ≡ m → a' ≡ a → (a' * v) % m' ≡ 1 → at < length xs → j ≡ at
    → Cong m (a * get_or (set xs at v) j 0) 1 × IsUnit m a
inverse_kept {m'} {a'} m a xs at j v two m_is a_is product below same =
    let inverts : Cong m (a * v) 1 = record { same = rw (m_is, a_is) at product ∙ sym (mod-eq_of_lt two) } in
    let value : get_or (set xs at v) j 0 ≡ v = rw same (get_or-set_same xs at v 0 below) in
    (rw value inverts, IsUnit-from_inverse m a v two inverts)
