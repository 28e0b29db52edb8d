-- Steps of a factorisation in place: the entry (i, j) of w becomes v, and the pivot of row i gets its inverse or is none.
use Rattle.std.proofs.Common.{◌≡◌, ℕ, min, List, length, slice_index, slice_set, ◌+◌, ◌*◌, ◌-◌, ◌%◌, ◌<◌, ◌≤◌, inl, inr, refl, sym, ◌∙◌, arith, get_or-set_other, get_or-set_same}
use Rattle.std.proofs.Math.Nat.{mod-eq_of_lt}
use Rattle.std.proofs.lemmas.Bool.{cases_eq}
use Rattle.residue_sums.specs.Residues.{Cong, IsUnit}
use Rattle.residue_sums.specs.Sums.{sum_below}
use Rattle.residue_sums.proofs.Congruence.{Cong-from_mod, Cong-from_difference, Cong-from_scaled_difference, IsUnit-from_inverse}
use Rattle.residue_sums.proofs.Grids.{entry-with_entry_same, entry-with_entry_other_row}
use Rattle.matrix_algebra.specs.Factors.{IsLuBadPivot}
use Rattle.matrix_algebra.proofs.InPlace.{OnlyAt-with_entry}
use Rattle.matrix_algebra.proofs.LuInPlace.{LuWritten, LuWritten-step, IsLuBadPivot-written}
use Rattle.algebra_witness.specs.Entries.{grid, entries}

-- the inverses of the first q pivots of w
abbrev pub Inverted : ℕ → ℕ → List ℕ → List ℕ → ℕ → Type 0
Inverted m n w inverses q = (k : ℕ) → k < q → Cong m (entries n n w k k * slice_index inverses k) 1

module _ (m n : ℕ) (before w inverses : List ℕ) (i j count others scale v : ℕ) (full : length w ≡ n * n) (row : i < n) (col : j < n) where
  pub lu_step : others < m → LuWritten m n (entries n n before) (entries n n w) (i * n + j) → Inverted m n w inverses i
      → count ≡ min i j → others ≡ sum_below (λ k. entries n n w i k * entries n n w k j) count % m
      → v ≡ ((entries n n w i j + m - others) % m * scale) % m
      → (j < i → scale ≡ slice_index inverses j) → (i ≤ j → scale ≡ 1)
      → LuWritten m n (entries n n before) (entries n n (slice_set w (i * n + j) v)) (i * n + j + 1)
  lu_step small so_far inverted ends sum scaled lower upper =
      LuWritten-step m n (entries n n before) (entries n n w) (entries n n (slice_set w (i * n + j) v)) i j others scale row col so_far
      (OnlyAt-with_entry (grid n n w) i j v col)
      (Cong-from_mod (rw ends at sum))
      (rw written (Cong-from_scaled_difference others ((entries n n w i j + m - others) % m) scale scaled moved))
      (λ below. rw (lower below) (inverted j below))
      upper
    where
      written : entries n n (slice_set w (i * n + j) v) i j ≡ v
      written = entry-with_entry_same (grid n n w) i j v full row col

      moved : Cong m ((entries n n w i j + m - others) % m + others) (entries n n w i j)
      moved = Cong-from_difference others (entries n n w i j + m - others) refl (omega arith)

  -- a write in row i keeps the pivots of the rows before
  pub Inverted-write : Inverted m n w inverses i → Inverted m n (slice_set w (i * n + j) v) inverses i
  Inverted-write inverted k before =
      rw (entry-with_entry_other_row (grid n n w) i j v k k col (omega arith) (omega arith)) (inverted k before)

-- the inverse of the next pivot
pub Inverted-more : (m n : ℕ) (w inverses : List ℕ) (i v : ℕ) → 2 ≤ m → i < length inverses → Inverted m n w inverses i → (entries n n w i i * v) % m ≡ 1
    → Inverted m n w (slice_set inverses i v) (i + 1)
Inverted-more m n w inverses i v two room inverted inverts k h = elim (cases_eq k i) [
  | inl here ↦ rw (here, get_or-set_same) (record { same = inverts ∙ sym (mod-eq_of_lt two) })
  | inr other ↦ rw get_or-set_other (inverted k (omega arith))
]

-- pivots with an inverse are units
pub units_of_inverted : (m n : ℕ) (w inverses : List ℕ) (q : ℕ) → 2 ≤ m → Inverted m n w inverses q → (i : ℕ) → i < q → IsUnit m (entries n n w i i)
units_of_inverted m n w inverses q two inverted i h = IsUnit-from_inverse m (entries n n w i i) (slice_index inverses i) two (inverted i h)

-- after row i, a pivot that is no unit is the first bad pivot
pub bad_pivot_here : (m n : ℕ) (before w inverses : List ℕ) (i j : ℕ) → 2 ≤ m → i < n → n ≤ j → LuWritten m n (entries n n before) (entries n n w) (i * n + j)
    → Inverted m n w inverses i → ¬ (IsUnit m (entries n n w i i)) → IsLuBadPivot m n (entries n n before) i
bad_pivot_here m n before w inverses i j two row complete so_far inverted bad =
    IsLuBadPivot-written m n i (i * n + j) (entries n n before) (entries n n w) row (omega arith) so_far (units_of_inverted m n w inverses i two inverted) bad
