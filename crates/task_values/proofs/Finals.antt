-- What a run came to, once all its steps were gone through. Cited where the outcome is answered.
use Rattle.std.proofs.Common.{◌≡◌, ℕ, ◌<◌, inl, inr, List, length, map, sym, ◌∙◌, ap, subst, arith}
use Rattle.std.specs.List.{range_with_len}
use Rattle.std.proofs.lemmas.Bool.{cases_eq, cases_lt}
use Rattle.std.proofs.lemmas.List.FromFn.{fill_by_all, get_or-map-range_with_len, length-map-range_with_len}
use Rattle.residue_sums.specs.Sums.{part_length}
use Rattle.equation.specs.declared.job.Place.{Place}
use Rattle.equation.specs.Jobs.{nth_grid, no_grid}
use Rattle.flash_blocks.specs.Flashes.{HasShape}
use Rattle.step_replays.specs.Replays.{StepResult, Failed, IsFailure, IsStop, block_after, blocks_after, matrices_after, matrix_after, nth_result, nth_step}
use Rattle.step_replays.proofs.ReplayBlocks.{block-by_number}
use Rattle.step_replays.proofs.Stops.{all-ran}
use Rattle.job_blocks.specs.BlockedJobs.{BlockedJob, HasBlock, HaveBlockShapes, gathered_matrices, gathered_matrix, number_at}
use Rattle.job_blocks.proofs.BlockCounts.{number-below}
use Rattle.job_blocks.proofs.GatherSteps.{gathered-same}
use Rattle.task_values.specs.declared.outcome.Failure.{Failure}
use Rattle.task_values.specs.declared.run.Run.{Run}
use Rattle.task_values.specs.declared.store.Store.{Store}
use Rattle.task_values.specs.Marks.{IsLost}
use Rattle.task_values.specs.Progress.{IsFirstFailure, IsHeldAfter, IsRun}
use Rattle.task_values.proofs.RunFronts.{block-shape, run_replay}

-- the first step that failed is of the least statement
pub is-failure : (r : Run) (is : IsRun r) (results : List StepResult) (f : Failure) → IsFirstFailure r.steps.now results (length r.steps.now) f
    → IsFailure r.steps.now results f.statement (record { row = f.row; col = f.col })
is-failure r is results f first = record {
  step = first.step;
  within = first.within;
  failed = first.failed;
  of = first.of;
  least = λ q other below failed. elim (cases_lt q first.step) [
    | inl before ↦ absurd (first.first q other before failed)
    | inr le ↦ elim (cases_eq q first.step) [
      | inl same ↦ omega (arith, first.of, ap (λ (p : ℕ). (nth_step r.steps.now p).statement) same)
      | inr apart ↦ omega (arith, first.of, is.fit.sorted first.step q (omega arith) below)
    ]
  ];
}

-- ---- where no step failed

module _ (r : Run) (is : IsRun r) (results : List StepResult) (s : Store) (held : IsHeldAfter r results (length r.steps.now) s)
    (none : (q : ℕ) (place : Place) → q < length r.steps.now → nth_result results q ≡ Failed place → ⊥) where
  abbrev x : BlockedJob
  x = record { job = r.job.now; b = r.b }

  abbrev n : ℕ
  n = length r.steps.now

  -- no block is lost
  kept : (y : ℕ) → IsLost r.steps.now results (length r.steps.now) y → ⊥
  kept y lost =
      let ran = all-ran (run_replay r is results n held.front) n (omega arith) none lost.0 lost.1 in
      subst IsStop ran.1 lost.2

  block-is : (k i j : ℕ) → HasBlock x k i j → nth_grid s.blocks.items (number_at x k i j) ≡ block_after r.job.now r.b r.steps.now results (length r.steps.now) (number_at x k i j)
  block-is k i j there = held.blocks (number_at x k i j) (omega (arith, number-below x k i j there, held.count)) (kept (number_at x k i j))

  pub have-shapes : HaveBlockShapes (record { job = r.job.now; b = r.b }) s.blocks.items
  have-shapes = record {
    count = omega (arith, held.count);
    shapes = λ k i j there.
        subst (HasShape (part_length (nth_grid r.job.now.matrices k).rows r.b i) (part_length (nth_grid r.job.now.matrices k).cols r.b j)) (sym (block-is k i j there))
        (block-shape r is results n held.front k i j there).0;
  }

  matrix-is : (k : ℕ) → k < length r.job.now.matrices → gathered_matrix x s.blocks.items k ≡ matrix_after r.job.now r.b r.steps.now results (length r.steps.now) k
  matrix-is k k_in =
      gathered-same r.b (nth_grid r.job.now.matrices k).rows (nth_grid r.job.now.matrices k).cols
      (λ i j. nth_grid s.blocks.items (number_at x k i j)) (blocks_after r.job.now r.b r.steps.now results n k) is.size
      (λ i j row col.
      block-is k i j (record { matrix = k_in; row = row; col = col })
      ∙ sym (block-by_number (run_replay r is results n held.front) n k i j (k_in, row, col)))

  pub matrices-are : gathered_matrices (record { job = r.job.now; b = r.b }) s.blocks.items ≡ matrices_after r.job.now r.b r.steps.now results (length r.steps.now)
  matrices-are =
      let after = matrix_after r.job.now r.b r.steps.now results n in
      let many = length r.job.now.matrices in
      sym (fill_by_all (gathered_matrix x s.blocks.items) (map after (range_with_len 0 many)) many no_grid (length-map-range_with_len after 0 many)
      (λ k below. get_or-map-range_with_len after 0 many k k no_grid below (omega arith) ∙ sym (matrix-is k below)))
