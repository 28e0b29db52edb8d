-- A step of a lower triangular solve in place: the entry (i, j) of w becomes v.
use Rattle.std.proofs.Common.{◌≡◌, ℕ, false, List, length, slice_set, ◌+◌, ◌*◌, ◌-◌, ◌%◌, ◌<◌, ◌≤◌, refl, ◌∙◌, ap, arith}
use Rattle.std.proofs.lemmas.Bool.Decides.{nat_tests}
use Rattle.residue_sums.specs.Residues.{Cong}
use Rattle.residue_sums.specs.Sums.{sum_below}
use Rattle.residue_sums.specs.Tables.{Table, product}
use Rattle.residue_sums.proofs.Congruence.{Cong-sym, Cong-by, Cong-from_mod, Cong-from_difference, Cong-from_scaled_difference, row_from_unknown}
use Rattle.residue_sums.proofs.Grids.{entry-with_entry_same}
use Rattle.residue_sums.proofs.Sums.{sum_below-last, sum_below-same}
use Rattle.structure_rules.specs.declared.Structure.TheVariants.{General, Lower}
use Rattle.structure_rules.specs.Structures.{view, IsEntry}
use Rattle.matrix_algebra.proofs.Substitution.{IsSystem}
use Rattle.matrix_algebra.proofs.Systems.{IsSystem-left}
use Rattle.matrix_algebra.proofs.Triangles.{IsTriangle-view}
use Rattle.matrix_algebra.proofs.Places.{rowwise, IsOrder-ascending, IsPlacing-rowwise, reads_rows}
use Rattle.matrix_algebra.proofs.InPlace.{WrittenBelow, OnlyAt-with_entry, WrittenBelow-solve}
use Rattle.algebra_witness.specs.Entries.{grid, entries}

-- the system of the solve
abbrev pub lower_place : ℕ → Table
lower_place p = rowwise p (λ k. k) (λ k. k)

abbrev pub lower_left : ℕ → Table → Table → Table
lower_left n t x = product n (view Lower t) (view General x)

lower_system : (m n p : ℕ) (t : Table) → IsSystem m (IsEntry n p General) (lower_place p) (lower_left n t) (λ x i j. view Lower t i i)
lower_system m n p t = IsSystem-left m n p General tt (lower_place p) (view Lower t)
    (reads_rows n p (λ k. k) (λ k. k) (IsOrder-ascending n) (IsOrder-ascending p) (view Lower t) (IsTriangle-view false Lower n t tt))

view-lower_below : (t : Table) (i k : ℕ) → k ≤ i → view Lower t i k ≡ t i k
view-lower_below t i k h = grind (arith, nat_tests)

view-lower_above : (t : Table) (i k : ℕ) → i < k → view Lower t i k ≡ 0
view-lower_above t i k h = grind (arith, nat_tests)

-- the left side as the loop adds it up
lower_terms : (n : ℕ) (t x : Table) (i j : ℕ) → i < n → lower_left n t x i j ≡ sum_below (λ k. t i k * x k j) i + view Lower t i i * x i j
lower_terms n t x i j row =
    sum_below-last (λ k. view Lower t i k * x k j) n i row (λ k past within. rw (view-lower_above t i k past) (omega arith))
    ∙ ap (λ (s : ℕ). s + view Lower t i i * x i j)
    (sum_below-same (λ k. view Lower t i k * x k j) (λ k. t i k * x k j) i (λ k h. rw (view-lower_below t i k (omega arith)) refl))

module _ (m n p : ℕ) (t before w : List ℕ) (i j others rest inverse v : ℕ) where
  pub lower_step : length w ≡ n * p → i < n → j < p → others < m
      → WrittenBelow n p General (lower_place p) (λ x a b. Cong m (lower_left n (entries n n t) x a b) (entries n p before a b)) (entries n p before) (entries n p w) (i * p + j)
      → Cong m (entries n n t i i * inverse) 1
      → others ≡ sum_below (λ k. entries n n t i k * entries n p w k j) i % m
      → rest ≡ (entries n p w i j + m - others) % m
      → v ≡ (rest * inverse) % m
      → WrittenBelow n p General (lower_place p) (λ x a b. Cong m (lower_left n (entries n n t) x a b) (entries n p before a b)) (entries n p before)
      (entries n p (slice_set w (i * p + j) v)) (i * p + j + 1)
  lower_step full row col small so_far inverts sum difference scaled =
      WrittenBelow-solve m n p General (lower_place p) (lower_left n (entries n n t)) (λ x a b. view Lower (entries n n t) a a)
      (lower_system m n p (entries n n t))
      (IsPlacing-rowwise n p (λ k. k) (λ k. k) (IsOrder-ascending n) (IsOrder-ascending p) General)
      (entries n p before) (entries n p w) (entries n p (slice_set w (i * p + j) v)) i j others
      (record { row = row; col = col; inside = λ none. none })
      so_far
      (OnlyAt-with_entry (grid n p w) i j v col)
      (Cong-by (Cong-sym (Cong-from_mod sum)) (omega (arith, lower_terms n (entries n n t) (entries n p w) i j row)))
      (rw written (row_from_unknown others v (view Lower (entries n n t) i i) inverse (Cong-from_scaled_difference others rest inverse scaled moved) (rw pivot inverts)))
    where
      written : entries n p (slice_set w (i * p + j) v) i j ≡ v
      written = entry-with_entry_same (grid n p w) i j v full row col

      pivot : view Lower (entries n n t) i i ≡ entries n n t i i
      pivot = view-lower_below (entries n n t) i i (omega arith)

      moved : Cong m (rest + others) (entries n p w i j)
      moved = Cong-from_difference others (entries n p w i j + m - others) difference (omega arith)
