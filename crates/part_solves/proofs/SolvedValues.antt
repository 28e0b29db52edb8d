-- The value of a block whose lines are solved.
use Rattle.std.proofs.Common.{◌≡◌, ℕ, ◌*◌, ◌%◌, ◌<◌, ◌≤◌, ◌⊎◌, inr, sym, subst, arith}
use Rattle.residue_sums.specs.Residues.{Cong}
use Rattle.residue_sums.specs.Sums.{sum_below}
use Rattle.residue_sums.specs.Tables.{Table, times}
use Rattle.residue_sums.specs.Grids.{Grid, entry}
use Rattle.residue_sums.proofs.Congruence.{Cong-sym, Cong-trans, Cong-from_same, mod_from_Cong}
use Rattle.residue_sums.proofs.Sums.{sum_below-same}
use Rattle.structure_rules.specs.declared.Structure.{Structure}
use Rattle.structure_rules.specs.Structures.{view, IsInside}
use Rattle.matrix_parts.specs.declared.part_mut.PartMut.{PartMut}
use Rattle.matrix_parts.specs.Lent.{grid_of}
use Rattle.equation.specs.Kernels.{IsSolvedLeft, IsSolvedRight}
use Rattle.operand_lines.proofs.PartValues.{IsValue-part}

module _ (m : ℕ) (s : Structure) (n : ℕ) (old : Grid) (p : PartMut) (rows : p.rows ≡ old.rows) (cols : p.cols ≡ old.cols)
    (before : (i j : ℕ) → i < old.rows → j < old.cols → entry old i j < m) (residues : (i j : ℕ) → i < old.rows → j < old.cols → entry (grid_of p) i j < m) where
  -- the columns, by a factor on the left
  pub left_value : (t : Table) → n ≡ old.rows
      → ((g i : ℕ) → 0 ≤ g → g < old.cols → i < n → IsInside s i g → Cong m (sum_below (λ k. t i k * view s (entry (grid_of p)) k g) n) (entry old i g))
      → ((g i : ℕ) → g < old.cols → i < n → (g < 0) ⊎ ((old.cols ≤ g) ⊎ ¬ (IsInside s i g)) → entry (grid_of p) i g ≡ entry old i g)
      → IsSolvedLeft m s t old (grid_of p)
  left_value t size solved others =
      IsValue-part m s (λ x. times m old.rows t (view s x)) (entry old) old p rows cols residues
      (λ i j row col inner. rw (← size) (sym (mod_from_Cong (before i j row col) (Cong-sym (solved j i (omega arith) col (omega arith) inner)))))
      (λ i j row col out. others j i col (omega arith) (inr (inr (λ inner. inner out))))

  -- the rows, by a factor on the right, of which t is the transpose
  pub right_value : (u t : Table) → ((i k : ℕ) → t i k ≡ u k i) → n ≡ old.cols
      → ((g i : ℕ) → 0 ≤ g → g < old.rows → i < n → IsInside s g i → Cong m (sum_below (λ k. t i k * view s (entry (grid_of p)) g k) n) (entry old g i))
      → ((g i : ℕ) → g < old.rows → i < n → (g < 0) ⊎ ((old.rows ≤ g) ⊎ ¬ (IsInside s g i)) → entry (grid_of p) g i ≡ entry old g i)
      → IsSolvedRight m s u old (grid_of p)
  right_value u t turned size solved others =
      IsValue-part m s (λ x. times m old.cols (view s x) u) (entry old) old p rows cols residues
      (λ i j row col inner. subst (λ (q : ℕ). sum_below (λ k. view s (entry (grid_of p)) i k * u k j) q % m ≡ entry old i j) size (sym (mod_from_Cong (before i j row col)
      (Cong-trans (Cong-sym (solved i j (omega arith) row (omega arith) inner))
      (Cong-from_same (sum_below-same (λ k. t j k * view s (entry (grid_of p)) i k) (λ k. view s (entry (grid_of p)) i k * u k j) n (λ k below. swapped j k (view s (entry (grid_of p)) i k))))))))
      (λ i j row col out. others i j row (omega arith) (inr (inr (λ inner. inner out))))
    where
      swapped : (i k x : ℕ) → t i k * x ≡ x * u k i
      swapped i k x = rw (turned i k) (omega arith)
