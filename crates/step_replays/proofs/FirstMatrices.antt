-- The matrices that a replay begins with are the job's, and a step that tests pivots leaves all matrices. Cited where the outcome of a
-- replay is what the job means.
use Rattle.std.proofs.Common.{◌≡◌, ◌≢◌, ℕ, suc, ◌/◌, ◌%◌, ◌<◌, inl, inr, true, false, List, length, get_or, All, refl, sym, ◌∙◌, ap, ap₂, arith}
use Rattle.std.specs.Prelude.{◌==◌, nat_lt}
use Rattle.std.proofs.lemmas.Bool.{cases_lt, lt-ltb}
use Rattle.std.proofs.lemmas.Bool.Decides.{nat_tests}
use Rattle.std.proofs.lemmas.List.{ext_get_or}
use Rattle.std.proofs.lemmas.List.Elements.{All-get_or}
use Rattle.std.proofs.lemmas.List.FromFn.{get_or-map-range_with_len, length-map-range_with_len}
use Rattle.residue_sums.specs.Sums.{part_count}
use Rattle.residue_sums.specs.Grids.{Grid, IsFull, entry}
use Rattle.residue_sums.proofs.Grids.{same_from_HasEntries}
use Rattle.residue_sums.proofs.Parts.{part_below_count, index_from_place}
use Rattle.operation_spec.specs.declared.task.Task.{Task}
use Rattle.equation.specs.declared.job.Job.{Job}
use Rattle.equation.specs.Jobs.{nth_grid, no_grid}
use Rattle.equation.proofs.AssignedGrids.{IsFull-grid_of, HasEntries-grid_of}
use Rattle.flash_blocks.specs.Blocks.{Blocks, block_of, gathered, grid_of}
use Rattle.dependence_queue.specs.declared.access.Access.{Access}
use Rattle.block_tasks.proofs.BlockViews.{block_entry}
use Rattle.step_replays.specs.declared.step.Step.{Step}
use Rattle.step_replays.specs.Accesses.{blocks_in, block_number, pivot_number, access_of}
use Rattle.step_replays.specs.Replays.{StepResult, nth_step, block_after, blocks_after, matrix_after, matrices_after, pivots_task}
use Rattle.step_replays.specs.Fits.{FitsJob, IsAt}
use Rattle.step_replays.proofs.Numbers.{IsBlock, number-below, numbered-is}

module _ (job : Job) (b : ℕ) (steps : List Step) (results : List StepResult) where
  abbrev here : ℕ → ℕ → Blocks
  here s k = blocks_after job b steps results s k

  number-of : (s k i j : ℕ) → IsBlock b job.matrices k i j → blocks_after job b steps results s k i j ≡ block_after job b steps results s (block_number b job.matrices k i j)
  number-of s k i j is =
      let row : nat_lt i (part_count (nth_grid job.matrices k).rows b) ≡ true = lt-ltb i (part_count (nth_grid job.matrices k).rows b) is.1 in
      let col : nat_lt j (part_count (nth_grid job.matrices k).cols b) ≡ true = lt-ltb j (part_count (nth_grid job.matrices k).cols b) is.2 in
      rw (row, col) refl

  -- ---- before the first step

  first-block : (k i j : ℕ) → IsBlock b job.matrices k i j → blocks_after job b steps results 0 k i j ≡ block_of b (nth_grid job.matrices k) i j
  first-block k i j is =
      let inside : nat_lt (block_number b job.matrices k i j) (blocks_in b job.matrices) ≡ true
      = lt-ltb (block_number b job.matrices k i j) (blocks_in b job.matrices) (number-below b job.matrices k i j is) in
      number-of 0 k i j is ∙ rw inside (numbered-is b job.matrices k i j is)

  first-matrix : 0 < b → (k : ℕ) → k < length job.matrices → IsFull (nth_grid job.matrices k) → matrix_after job b steps results 0 k ≡ nth_grid job.matrices k
  first-matrix pos k below full = same_from_HasEntries (matrix_after job b steps results 0 k) (nth_grid job.matrices k) (gathered b (blocks_after job b steps results 0 k))
      (IsFull-grid_of (gathered b (blocks_after job b steps results 0 k)) (nth_grid job.matrices k).rows (nth_grid job.matrices k).cols) full refl refl
      (HasEntries-grid_of (gathered b (blocks_after job b steps results 0 k)) (nth_grid job.matrices k).rows (nth_grid job.matrices k).cols)
      (λ i j row col.
      let row_place = index_from_place (nth_grid job.matrices k).rows b i pos row in
      let col_place = index_from_place (nth_grid job.matrices k).cols b j pos col in
      sym (ap (λ (g : Grid). entry g (i % b) (j % b)) (first-block k (i / b) (j / b)
      (below, part_below_count (nth_grid job.matrices k).rows b i pos row, part_below_count (nth_grid job.matrices k).cols b j pos col))
      ∙ block_entry b (nth_grid job.matrices k) (i / b) (j / b) (i % b) (j % b) row_place.1 col_place.1
      ∙ ap₂ (λ (x y : ℕ). entry (nth_grid job.matrices k) x y) row_place.0 col_place.0))

  pub matrices-first : 0 < b → All IsFull job.matrices → matrices_after job b steps results 0 ≡ job.matrices
  matrices-first pos full = ext_get_or no_grid (matrices_after job b steps results 0) job.matrices count (λ k below. each k (rw count at below))
    where
      count : length (matrices_after job b steps results 0) ≡ length job.matrices
      count = length-map-range_with_len (matrix_after job b steps results 0) 0 (length job.matrices)

      each : (k : ℕ) → k < length job.matrices → get_or (matrices_after job b steps results 0) k no_grid ≡ get_or job.matrices k no_grid
      each k below =
          get_or-map-range_with_len (matrix_after job b steps results 0) 0 (length job.matrices) k k no_grid below (omega arith)
          ∙ first-matrix pos k below (All-get_or IsFull job.matrices k no_grid below full)

  -- ---- behind Pivots

  module _ (fits : FitsJob job b steps) (p s : ℕ) (at : IsAt steps p (suc s) pivots_task) where
    -- it writes no block of a matrix
    elsewhere : (k i j : ℕ) → IsBlock b job.matrices k i j → (nth_step steps p).access.write ≢ block_number b job.matrices k i j
    elsewhere k i j is same =
        let access : (nth_step steps p).access ≡ access_of job b (nth_step steps p).statement (nth_step steps p).task = (fits.exists p at.0).2 in
        let list : (nth_step steps p).access.write ≡ pivot_number job b (nth_step steps p).statement
        = ap (λ (a : Access). a.write) access ∙ ap (λ (u : Task). (access_of job b (nth_step steps p).statement u).write) at.2 in
        absurd (omega (arith, list, same, number-below b job.matrices k i j is))

    pub blocks-behind : (k i j : ℕ) → k < length job.matrices → blocks_after job b steps results (suc p) k i j ≡ blocks_after job b steps results p k i j
    blocks-behind k i j below = elim (cases_lt i (part_count (nth_grid job.matrices k).rows b)) [
      | inr past ↦ (let e : nat_lt i (part_count (nth_grid job.matrices k).rows b) ≡ false = grind (arith, nat_tests) in rw e refl)
      | inl row ↦ elim (cases_lt j (part_count (nth_grid job.matrices k).cols b)) [
        | inr past ↦ (let e : nat_lt j (part_count (nth_grid job.matrices k).cols b) ≡ false = grind (arith, nat_tests) in
            let f : nat_lt i (part_count (nth_grid job.matrices k).rows b) ≡ true = lt-ltb i (part_count (nth_grid job.matrices k).rows b) row in rw (f, e) refl)
        | inl col ↦ (let other = elsewhere k i j (below, row, col) in
            let e : ((nth_step steps p).access.write == block_number b job.matrices k i j) ≡ false = grind (arith, nat_tests) in
            number-of (suc p) k i j (below, row, col) ∙ rw e (sym (number-of p k i j (below, row, col))))
      ]
    ]

    matrix-kept : (k : ℕ) → k < length job.matrices → matrix_after job b steps results (suc p) k ≡ matrix_after job b steps results p k
    matrix-kept k below =
        let same : blocks_after job b steps results (suc p) k ≡ blocks_after job b steps results p k = λ z. λ i. λ j. blocks-behind k i j below z in
        ap (λ (w : Blocks). grid_of (gathered b w) (nth_grid job.matrices k).rows (nth_grid job.matrices k).cols) same

    pub matrices-kept : matrices_after job b steps results (suc p) ≡ matrices_after job b steps results p
    matrices-kept = ext_get_or no_grid (matrices_after job b steps results (suc p)) (matrices_after job b steps results p)
        (count (suc p) ∙ sym (count p)) (λ k below. each k (rw (count (suc p)) at below))
      where
        count : (q : ℕ) → length (matrices_after job b steps results q) ≡ length job.matrices
        count q = length-map-range_with_len (matrix_after job b steps results q) 0 (length job.matrices)

        each : (k : ℕ) → k < length job.matrices → get_or (matrices_after job b steps results (suc p)) k no_grid ≡ get_or (matrices_after job b steps results p) k no_grid
        each k below =
            get_or-map-range_with_len (matrix_after job b steps results (suc p)) 0 (length job.matrices) k k no_grid below (omega arith)
            ∙ matrix-kept k below
            ∙ sym (get_or-map-range_with_len (matrix_after job b steps results p) 0 (length job.matrices) k k no_grid below (omega arith))
