-- The blocks of the matrices and the pivot lists keep their shapes at any step, and hold residues. Cited by the law that says so.
use Rattle.std.proofs.Common.{◌≡◌, ℕ, zero, suc, ◌<◌, ◌≤◌, true, length, ◌∙◌, ap, subst, arith}
use Rattle.residue_sums.specs.Sums.{part_length}
use Rattle.residue_sums.specs.Grids.{Grid}
use Rattle.equation.specs.Jobs.{nth_grid}
use Rattle.flash_blocks.specs.Flashes.{HasShape}
use Rattle.step_replays.specs.Accesses.{block_number, has_pivots, operation_of, statement_of, pivot_number}
use Rattle.step_replays.specs.Fronts.{IsResidueBlock, zero_list_of}
use Rattle.step_replays.proofs.Numbers.{IsBlock}
use Rattle.step_replays.proofs.FirstShapes.{first-list}
use Rattle.step_replays.proofs.ReplayBlocks.{block-by_number, shape, like}
use Rattle.step_replays.proofs.JobReplays.{JobReplay, block_at}

module _ (replay : JobReplay) (s : ℕ) (le : s ≤ length replay.steps) where
  pub block-shape : (k i j : ℕ) → IsBlock replay.b replay.job.matrices k i j
      → IsResidueBlock replay.job.modulus (part_length (nth_grid replay.job.matrices k).rows replay.b i) (part_length (nth_grid replay.job.matrices k).cols replay.b j)
      (block_at replay s (block_number replay.b replay.job.matrices k i j))
  block-shape k i j is = (
    subst (HasShape (part_length (nth_grid replay.job.matrices k).rows replay.b i) (part_length (nth_grid replay.job.matrices k).cols replay.b j)) (block-by_number replay s k i j is) (shape replay s k i j le is),
    (like replay s (block_number replay.b replay.job.matrices k i j) le).residues,
  )

  -- the list of statement t + 1
  own-list : (t : ℕ) → t < length replay.job.statements → has_pivots (operation_of replay.job (statement_of replay.job (suc t))) ≡ true
      → IsResidueBlock replay.job.modulus (zero_list_of replay.job (suc t)).rows (zero_list_of replay.job (suc t)).cols (block_at replay s (pivot_number replay.job replay.b (suc t)))
  own-list t t_in some =
      let first = first-list replay.job replay.b t t_in some in
      let h = like replay s (pivot_number replay.job replay.b (suc t)) le in
      (record { rows = h.rows ∙ ap (λ (g : Grid). g.rows) first; cols = h.cols ∙ ap (λ (g : Grid). g.cols) first; full = h.full }, h.residues)

  pub list-shape : (n : ℕ) → 1 ≤ n → n ≤ length replay.job.statements → has_pivots (operation_of replay.job (statement_of replay.job n)) ≡ true
      → IsResidueBlock replay.job.modulus (zero_list_of replay.job n).rows (zero_list_of replay.job n).cols (block_at replay s (pivot_number replay.job replay.b n))
  list-shape zero some_in n_in some = absurd (omega arith)
  list-shape (suc t) some_in n_in some = own-list t (omega arith) some
