-- The tables that number the blocks of a job, and the list of all its blocks.
use Rattle.std.specs.Prelude.{◌≡◌, ℕ, ◌+◌, ◌≤◌, List, [], ◌∷◌, length, map, take, if◌then◌else◌}
use Rattle.std.specs.List.{range_with_len, flat_map}
use Rattle.residue_sums.specs.Sums.{part_count}
use Rattle.residue_sums.specs.Grids.{Grid}
use Rattle.equation.specs.declared.job.Job.{Job}
use Rattle.equation.specs.declared.job.Statement.{Statement}
use Rattle.equation.specs.Jobs.{IsJob, nth_grid}
use Rattle.flash_blocks.specs.Flashes.{cut_of}
use Rattle.step_replays.specs.Accesses.{blocks_in, has_pivots, lists_of, operation_of, zero_list_by}

-- the numbers of the first blocks of the matrices, and the number behind the last block
abbrev pub starts_of : ℕ → List Grid → List ℕ
starts_of b grids = map (λ k. blocks_in b (take k grids)) (range_with_len 0 (length grids + 1))

-- how many columns of blocks each matrix has
abbrev pub block_cols : ℕ → List Grid → List ℕ
block_cols b grids = map (λ g. part_count g.cols b) grids

-- the numbers from first on of the pivot lists, for each statement that of its own or the next one, and the number behind the last
abbrev pub list_numbers : Job → ℕ → List ℕ
list_numbers job first = map (λ s. first + lists_of job (take s job.statements)) (range_with_len 0 (length job.statements + 1))

pub record AreTables (job : Job) (b : ℕ) (starts cols lists : List ℕ) : Type 0 where
  pub valid : IsJob job
  pub size : 1 ≤ b
  pub starts_are : starts ≡ starts_of b job.matrices
  pub cols_are : cols ≡ block_cols b job.matrices
  pub lists_are : lists ≡ list_numbers job (blocks_in b job.matrices)

-- ---- the list of all blocks

abbrev pub matrix_blocks : ℕ → List Grid → List Grid
matrix_blocks b grids = flat_map (λ g. (cut_of b g).blocks) grids

-- the pivot list of a statement where it has one, all zero
abbrev pub zero_list : Job → Statement → List Grid
zero_list job s = if has_pivots (operation_of job s) then zero_list_by (operation_of job s).form (nth_grid job.matrices s.bind.work) ∷ [] else []

abbrev pub zero_lists : Job → List Grid
zero_lists job = flat_map (zero_list job) job.statements
