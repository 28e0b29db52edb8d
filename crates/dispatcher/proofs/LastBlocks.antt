-- The blocks after the last step make the matrices that the replay leaves. Cited where the outcome of a run is answered.
use Rattle.std.proofs.Common.{◌≡◌, ℕ, zero, suc, ◌<◌, ◌≤◌, List, [], ◌∷◌, length, map, sym, ◌∙◌, subst, arith}
use mathlib.Core.Option.{some, some-injective, some-ne-none}
use lib.ListN.{get_elem?}
use Rattle.std.specs.List.{range_with_len}
use Rattle.std.proofs.lemmas.List.FromFn.{fill_by_all, get_or-map-range_with_len, length-map-range_with_len}
use Rattle.residue_sums.specs.Grids.{Grid}
use Rattle.residue_sums.specs.Sums.{part_length}
use Rattle.equation.specs.Jobs.{IsJob, nth_grid, no_grid}
use Rattle.flash_blocks.specs.Flashes.{HasShape}
use Rattle.step_replays.specs.Fits.{FitsJob}
use Rattle.step_replays.specs.Replays.{StepResult, block_after, blocks_after, matrices_after, matrix_after}
use Rattle.step_replays.proofs.FrontShapes as fronts
use Rattle.step_replays.proofs.JobReplays.{JobReplay, whole-front}
use Rattle.step_replays.proofs.ReplayBlocks.{block-by_number}
use Rattle.job_blocks.specs.BlockedJobs.{BlockedJob, HasBlock, HaveBlockShapes, gathered_matrices, gathered_matrix, number_at}
use Rattle.job_blocks.proofs.BlockCounts.{number-below}
use Rattle.job_blocks.proofs.GatherSteps.{gathered-same}
use Rattle.block_store.specs.declared.key.BoardKey.{BoardKey}
use Rattle.block_store.specs.Holding.{HaveLast}
use Rattle.block_store.specs.Keys.{step_count, IsReplayOf}
use Rattle.block_store.proofs.Versions.{last-after}

nth-from : (grids : List Grid) (x : ℕ) (g : Grid) → get_elem? grids x ≡ some g → nth_grid grids x ≡ g
nth-from [] x g at = absurd (some-ne-none g (sym at))
nth-from (h ∷ grids) zero g at = some-injective h g at
nth-from (h ∷ grids) (suc x) g at = nth-from grids x g at

module _ (key : BoardKey) (valid : IsJob key.job.value) (size : 1 ≤ key.b) (fit : FitsJob key.job.value key.b key.steps.value) (results : List StepResult)
    (replay : IsReplayOf key results) (blocks : List Grid) (last : HaveLast key blocks) where
  abbrev x : BlockedJob
  x = record { job = key.job.value; b = key.b }

  abbrev n : ℕ
  n = step_count key

  whole : JobReplay
  whole = record {
    job = key.job.value;
    b = key.b;
    steps = key.steps.value;
    results = results;
    pos = size;
    valid = valid;
    fits = fit;
    done = n;
    outcomes = whole-front key.job.value key.b key.steps.value results replay;
  }

  block-is : (k i j : ℕ) → HasBlock x k i j → nth_grid blocks (number_at x k i j) ≡ block_after key.job.value key.b key.steps.value results n (number_at x k i j)
  block-is k i j there = nth-from blocks (number_at x k i j) _ (last-after key results replay blocks last (number_at x k i j) (omega (arith, number-below x k i j there)))

  pub have-shapes : HaveBlockShapes (record { job = key.job.value; b = key.b }) blocks
  unfolding whole
  have-shapes = record {
    count = omega (arith, last.many);
    shapes = λ k i j there.
        subst (HasShape (part_length (nth_grid key.job.value.matrices k).rows key.b i) (part_length (nth_grid key.job.value.matrices k).cols key.b j)) (sym (block-is k i j there))
        (fronts.block-shape whole n (omega arith) k i j (there.matrix, there.row, there.col)).0;
  }

  matrix-is : (k : ℕ) → k < length key.job.value.matrices → gathered_matrix x blocks k ≡ matrix_after key.job.value key.b key.steps.value results n k
  unfolding whole
  matrix-is k k_in =
      gathered-same key.b (nth_grid key.job.value.matrices k).rows (nth_grid key.job.value.matrices k).cols
      (λ i j. nth_grid blocks (number_at x k i j)) (blocks_after key.job.value key.b key.steps.value results n k) size
      (λ i j row col. block-is k i j (record { matrix = k_in; row = row; col = col }) ∙ sym (block-by_number whole n k i j (k_in, row, col)))

  pub matrices-are : gathered_matrices (record { job = key.job.value; b = key.b }) blocks ≡ matrices_after key.job.value key.b key.steps.value results (step_count key)
  matrices-are =
      let after = matrix_after key.job.value key.b key.steps.value results n in
      let many = length key.job.value.matrices in
      sym (fill_by_all (gathered_matrix x blocks) (map after (range_with_len 0 many)) many no_grid (length-map-range_with_len after 0 many)
      (λ k below. get_or-map-range_with_len after 0 many k k no_grid below (omega arith) ∙ sym (matrix-is k below)))
