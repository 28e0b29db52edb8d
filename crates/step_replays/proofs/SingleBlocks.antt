-- Lists with no steps, and matrices of one block. Cited by the laws on them.
use Rattle.std.proofs.Common.{◌≡◌, ℕ, zero, ◌+◌, ◌*◌, ◌<◌, ◌≤◌, inl, inr, List, [], ◌∷◌, length, refl, sym, ◌∙◌, ap, ap₂, arith}
use Rattle.std.proofs.lemmas.Bool.{cases_lt}
use Rattle.std.proofs.lemmas.List.{get_or_past}
use Rattle.std.proofs.lemmas.List.FromFn.{get_or-map-range_with_len}
use Rattle.residue_sums.specs.Sums.{part_length}
use Rattle.residue_sums.specs.Grids.{Grid, IsFull, entry}
use Rattle.residue_sums.proofs.Grids.{same_from_HasEntries}
use Rattle.residue_sums.proofs.Parts.{part_below_count}
use Rattle.equation.specs.declared.job.Job.{Job}
use Rattle.equation.specs.declared.job.Statement.{Statement}
use Rattle.equation.specs.Jobs.{nth_grid, no_grid}
use Rattle.equation.proofs.AssignedGrids.{IsFull-grid_of}
use Rattle.flash_blocks.specs.Blocks.{block_of, gathered}
use Rattle.block_tasks.proofs.BlockViews.{block_entry}
use Rattle.step_replays.specs.declared.step.Step.{Step}
use Rattle.step_replays.specs.Fits.{FitsJob}
use Rattle.step_replays.proofs.Numbers.{IsBlock}
use Rattle.step_replays.proofs.ReplayBlocks.{cut-gathered, shape}
use Rattle.step_replays.proofs.JobReplays.{JobReplay, blocks_at, matrix_at, matrices_at}

-- each step has a statement
pub no-steps : (job : Job) (b : ℕ) (steps : List Step) → FitsJob job b steps → job.statements ≡ [] → steps ≡ []
no-steps job b [] fits none = refl
no-steps job b (s ∷ steps) fits none =
    let first = (fits.exists zero (omega arith)).0 in
    let count : length job.statements ≡ 0 = ap (λ (statements : List Statement). length statements) none in
    absurd (omega (arith, first.2, count))

-- a matrix that is no longer and no wider than a block is its only block
pub whole-block : (b : ℕ) (g : Grid) → IsFull g → g.rows ≤ b → g.cols ≤ b → block_of b g 0 0 ≡ g
whole-block b g full low narrow = same_from_HasEntries (block_of b g 0 0) g (entry g) (IsFull-grid_of (λ r c. entry g (0 * b + r) (0 * b + c)) (part_length g.rows b 0) (part_length g.cols b 0)) full
    rows cols
    (λ r c row col.
    let down : 0 * b + r ≡ r = omega arith in
    let along : 0 * b + c ≡ c = omega arith in
    block_entry b g 0 0 r c row col ∙ ap₂ (λ (x y : ℕ). entry g x y) down along)
    (λ r c row col. refl)
  where
    rows : part_length g.rows b 0 ≡ g.rows
    rows = omega arith

    cols : part_length g.cols b 0 ≡ g.cols
    cols = omega arith

module _ (replay : JobReplay) (s k : ℕ) (le : s ≤ length replay.steps) where
  abbrev rows : ℕ
  rows = (nth_grid replay.job.matrices k).rows

  abbrev cols : ℕ
  cols = (nth_grid replay.job.matrices k).cols

  some-matrix : 0 < rows → k < length replay.job.matrices
  some-matrix some = elim (cases_lt k (length replay.job.matrices)) [
    | inl below ↦ below
    | inr past ↦ absurd (omega (arith, ap (λ (g : Grid). g.rows) (get_or_past replay.job.matrices k no_grid past)))
  ]

  -- there is the block
  there : 0 < rows → 0 < cols → IsBlock replay.b replay.job.matrices k 0 0
  there row col = (
    some-matrix row,
    omega (arith, part_below_count rows replay.b 0 replay.pos row),
    omega (arith, part_below_count cols replay.b 0 replay.pos col),
  )

  pub one-block : rows ≤ replay.b → cols ≤ replay.b → 0 < rows → 0 < cols → blocks_at replay s k 0 0 ≡ nth_grid (matrices_at replay s) k
  one-block low narrow row col =
      let size = shape replay s k 0 0 le (there row col) in
      sym (cut-gathered replay.b (blocks_at replay s k) rows cols 0 0 size.full size.rows size.cols)
      ∙ whole-block replay.b (matrix_at replay s k) (IsFull-grid_of (gathered replay.b (blocks_at replay s k)) rows cols) low narrow
      ∙ sym (get_or-map-range_with_len (matrix_at replay s) 0 (length replay.job.matrices) k k no_grid (some-matrix row) (omega arith))
