-- The matrices that blocks make: they depend on the blocks of the matrices alone, and those that a job gives make its own matrices. Cited by
-- the loop that gathers, and by the law.
use Rattle.std.proofs.Common.{◌≡◌, ℕ, ◌+◌, ◌-◌, ◌*◌, ◌/◌, ◌%◌, ◌<◌, ◌≤◌, List, length, map, take, drop, get_or, true, refl, sym, ◌∙◌, ap, ap₂, subst, arith}
use Rattle.std.specs.Prelude.{nat_lt}
use Rattle.std.specs.List.{range_with_len}
use Rattle.std.proofs.lemmas.Bool.{lt-ltb}
use Rattle.std.proofs.lemmas.List.{get_or-take, get_or-drop, length-drop, take-take}
use Rattle.std.proofs.lemmas.List.FromFn.{fill_by_all, get_or-map-range_with_len}
use Rattle.residue_sums.specs.Sums.{part_count, part_length}
use Rattle.residue_sums.specs.Grids.{Grid, entry}
use Rattle.residue_sums.proofs.Grids.{same_from_HasEntries}
use Rattle.residue_sums.proofs.Parts.{index_from_place, part_below_count}
use Rattle.equation.specs.Jobs.{nth_grid, no_grid}
use Rattle.equation.proofs.AssignedGrids.{IsFull-grid_of, HasEntries-grid_of}
use Rattle.flash_blocks.specs.Blocks.{Blocks, block_of, gathered, grid_of}
use Rattle.flash_blocks.specs.Flashes.{BlockedGrid, HasShape, HasShapes, flash_block}
use Rattle.block_tasks.proofs.BlockViews.{block_entry}
use Rattle.step_replays.specs.Accesses.{blocks_in, first_block}
use Rattle.step_replays.proofs.Numbers.{numbered-is}
use Rattle.job_blocks.specs.BlockedJobs.{HaveBlockShapes, HaveBlockShapesOf, AreFirstBlocks, BlockedJob, HasBlock, IsBlockedJob, gathered_matrices, gathered_matrix, number_at}
use Rattle.job_blocks.proofs.BlockCounts.{grid_blocks, blocks_in-more, number-before_next, number-below}

-- matrices of blocks that agree are one
pub gathered-same : (b rows cols : ℕ) (p q : Blocks) → 1 ≤ b → ((i j : ℕ) → i < part_count rows b → j < part_count cols b → p i j ≡ q i j)
    → grid_of (gathered b p) rows cols ≡ grid_of (gathered b q) rows cols
gathered-same b rows cols p q size agree =
    same_from_HasEntries (grid_of (gathered b p) rows cols) (grid_of (gathered b q) rows cols) (gathered b q)
    (IsFull-grid_of (gathered b p) rows cols) (IsFull-grid_of (gathered b q) rows cols) refl refl
    (λ r c row col. HasEntries-grid_of (gathered b p) rows cols r c row col
    ∙ ap (λ (g : Grid). entry g (r % b) (c % b)) (agree (r / b) (c / b) (part_below_count rows b r size row) (part_below_count cols b c size col)))
    (HasEntries-grid_of (gathered b q) rows cols)

-- the first of them are enough
pub gathered-take : (x : BlockedJob) (blocks : List Grid) (k : ℕ) → 1 ≤ x.b → k < length x.job.matrices
    → gathered_matrix x (take (blocks_in x.b (take (k + 1) x.job.matrices)) blocks) k ≡ gathered_matrix x blocks k
gathered-take x blocks k size matrix =
    let g = nth_grid x.job.matrices k in
    let first = take (blocks_in x.b (take (k + 1) x.job.matrices)) blocks in
    gathered-same x.b g.rows g.cols (λ i j. nth_grid first (number_at x k i j)) (λ i j. nth_grid blocks (number_at x k i j)) size
    (λ i j row col. get_or-take (blocks_in x.b (take (k + 1) x.job.matrices)) blocks (number_at x k i j) no_grid
    (number-before_next x k i j (record { matrix = matrix; row = row; col = col })))

pub shapes-take : (x : BlockedJob) (blocks : List Grid) (k : ℕ) → HaveBlockShapesOf x k blocks → HaveBlockShapesOf x k (take (blocks_in x.b (take (k + 1) x.job.matrices)) blocks)
shapes-take x blocks k shapes i j there =
    subst (HasShape (part_length (nth_grid x.job.matrices k).rows x.b i) (part_length (nth_grid x.job.matrices k).cols x.b j))
    (sym (get_or-take (blocks_in x.b (take (k + 1) x.job.matrices)) blocks (number_at x k i j) no_grid (number-before_next x k i j there))) (shapes i j there)

-- fewer matrices have no more blocks
pub take-fewer : (x : BlockedJob) (blocks : List Grid) (k : ℕ) → k < length x.job.matrices
    → take (blocks_in x.b (take k x.job.matrices)) (take (blocks_in x.b (take (k + 1) x.job.matrices)) blocks) ≡ take (blocks_in x.b (take k x.job.matrices)) blocks
take-fewer x blocks k matrix =
    take-take (blocks_in x.b (take k x.job.matrices)) (blocks_in x.b (take (k + 1) x.job.matrices)) blocks (omega (arith, blocks_in-more x.b x.job.matrices k matrix))

-- ---- the blocks of matrix k, behind those of the matrices before it

module _ (x : BlockedJob) (k : ℕ) (blocks : List Grid) where
  abbrev pub start : ℕ
  start = blocks_in x.b (take k x.job.matrices)

  abbrev pub own : BlockedGrid
  own = record { b = x.b; rows = (nth_grid x.job.matrices k).rows; cols = (nth_grid x.job.matrices k).cols; blocks = drop start blocks }

  pub own-is : (i j : ℕ) → flash_block own i j ≡ nth_grid blocks (number_at x k i j)
  own-is i j = get_or-drop start blocks (i * part_count (nth_grid x.job.matrices k).cols x.b + j) no_grid

  pub own-count : k < length x.job.matrices → length blocks ≡ blocks_in x.b (take (k + 1) x.job.matrices) → length (drop start blocks) ≡ grid_blocks x.b (nth_grid x.job.matrices k)
  own-count matrix count = length-drop start blocks ∙ omega (arith, count, blocks_in-more x.b x.job.matrices k matrix)

  pub own-shapes : k < length x.job.matrices → length blocks ≡ blocks_in x.b (take (k + 1) x.job.matrices) → HaveBlockShapesOf x k blocks → HasShapes own
  own-shapes matrix count shapes = record {
    count = own-count matrix count;
    shape = λ i j there. subst (HasShape (part_length (nth_grid x.job.matrices k).rows x.b i) (part_length (nth_grid x.job.matrices k).cols x.b j)) (sym (own-is i j))
        (shapes i j (record { matrix = matrix; row = there.row; col = there.col }));
  }

  pub own-gathered : grid_of (gathered x.b (flash_block own)) (nth_grid x.job.matrices k).rows (nth_grid x.job.matrices k).cols ≡ gathered_matrix x blocks k
  own-gathered = λ z. grid_of (gathered x.b (λ i j. own-is i j z)) (nth_grid x.job.matrices k).rows (nth_grid x.job.matrices k).cols

-- ---- the matrices, the last one first

abbrev pub from_last : BlockedJob → List Grid → ℕ → Grid
from_last x blocks i = gathered_matrix x blocks (length x.job.matrices - 1 - i)

pub turned : (x : BlockedJob) (blocks turned_round last_first : List Grid) → last_first ≡ map (from_last x blocks) (range_with_len 0 (length x.job.matrices))
    → length turned_round ≡ length x.job.matrices
    → ((k : ℕ) (d : Grid) → k < length x.job.matrices → get_or turned_round k d ≡ get_or last_first (length x.job.matrices - 1 - k) d)
    → turned_round ≡ gathered_matrices x blocks
turned x blocks turned_round last_first e count each =
    fill_by_all (gathered_matrix x blocks) turned_round (length x.job.matrices) no_grid count (λ k below.
    let n : ℕ = length x.job.matrices in
    let there : n - 1 - k < n = omega arith in
    let back : n - 1 - (n - 1 - k) ≡ k = omega arith in
    each k no_grid below
    ∙ ap (λ (all : List Grid). get_or all (n - 1 - k) no_grid) e
    ∙ get_or-map-range_with_len (from_last x blocks) 0 n (n - 1 - k) (n - 1 - k) no_grid there (omega arith)
    ∙ ap (gathered_matrix x blocks) back)

-- ---- the blocks that a job gives

module _ (x : BlockedJob) (blocks : List Grid) (first : AreFirstBlocks x blocks) where
  first-is : (k i j : ℕ) → HasBlock x k i j → nth_grid blocks (number_at x k i j) ≡ block_of x.b (nth_grid x.job.matrices k) i j
  first-is k i j there =
      let below = number-below x k i j there in
      let inside : nat_lt (number_at x k i j) (blocks_in x.b x.job.matrices) ≡ true = lt-ltb (number_at x k i j) (blocks_in x.b x.job.matrices) below in
      let given : first_block x.job x.b (number_at x k i j) ≡ block_of x.b (nth_grid x.job.matrices k) i j =
      rw inside (numbered-is x.b x.job.matrices k i j (there.matrix, there.row, there.col)) in
      first.each (number_at x k i j) (omega (arith, below)) ∙ given

  pub shapes-first : HaveBlockShapes x blocks
  shapes-first = record {
    count = omega (arith, first.count);
    shapes = λ k i j there.
        let g = nth_grid x.job.matrices k in
        rw (first-is k i j there) (record {
          rows = refl;
          cols = refl;
          full = IsFull-grid_of (λ r c. entry g (i * x.b + r) (j * x.b + c)) (part_length g.rows x.b i) (part_length g.cols x.b j);
        });
  }

  -- the cut of a matrix, gathered again
  whole : (k : ℕ) → IsBlockedJob x → k < length x.job.matrices → gathered_matrix x blocks k ≡ nth_grid x.job.matrices k
  whole k is matrix =
      let g = nth_grid x.job.matrices k in
      let b = x.b in
      gathered-same b g.rows g.cols (λ i j. nth_grid blocks (number_at x k i j)) (block_of b g) is.size
      (λ i j row col. first-is k i j (record { matrix = matrix; row = row; col = col }))
      ∙ same_from_HasEntries (grid_of (gathered b (block_of b g)) g.rows g.cols) g (entry g) (IsFull-grid_of (gathered b (block_of b g)) g.rows g.cols)
      (is.job.full k no_grid matrix) refl refl
      (λ r c row col.
      let in_row = index_from_place g.rows b r is.size row in
      let in_col = index_from_place g.cols b c is.size col in
      HasEntries-grid_of (gathered b (block_of b g)) g.rows g.cols r c row col
      ∙ block_entry b g (r / b) (c / b) (r % b) (c % b) in_row.1 in_col.1
      ∙ ap₂ (λ (y z : ℕ). entry g y z) in_row.0 in_col.0)
      (λ r c row col. refl)

  pub whole-first : IsBlockedJob x → gathered_matrices x blocks ≡ x.job.matrices
  whole-first is = sym (fill_by_all (gathered_matrix x blocks) x.job.matrices (length x.job.matrices) no_grid refl (λ k below. sym (whole k is below)))
