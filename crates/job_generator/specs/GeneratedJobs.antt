-- The job that is generated for a size, a modulus and a seed.
use Rattle.std.specs.Prelude.{ℕ, ◌*◌, ◌-◌, List, [], ◌∷◌, codes}
use Rattle.residue_sums.specs.Grids.{Grid}
use Rattle.matrix_core.specs.Matrices.{zero_grid}
use Rattle.flash_blocks.specs.Blocks.{grid_of}
use Rattle.equation.specs.declared.job.Job.{Job}
use Rattle.equation.specs.declared.job.Statement.{Statement}
use Rattle.job_generator.specs.Draws.{first_number, number_after, unit_diagonal_table, drawn_table}
use Rattle.job_generator.specs.GeneratedOperations.{prod, lu, ulow, upp}

-- the factors L and U in one matrix: ones on the diagonal, and draws elsewhere
abbrev pub factors : ℕ → ℕ → ℕ → Grid
factors n m seed = grid_of (unit_diagonal_table m (first_number seed) n) n n

-- a matrix of draws, from the number that stands behind those of the factors
abbrev pub right_side : ℕ → ℕ → ℕ → Grid
right_side n m seed = grid_of (drawn_table m (number_after (n * n - n) (first_number seed)) n) n n

abbrev pub statement : ℕ → ℕ → List ℕ → Statement
statement operation work knowns = record { operation = operation; bind = record { work = work; knowns = knowns } }

-- `do prod S F F`, `do lu S`, `do ulow B S`, `do upp B S`, then S and B are printed, where F are the factors, S is zero and B the
-- right side
unfoldable pub generated_job : ℕ → ℕ → ℕ → Job
generated_job n m seed = record {
  modulus = m;
  operations = prod ∷ lu ∷ ulow ∷ upp ∷ [];
  names = codes "F" ∷ codes "S" ∷ codes "B" ∷ [];
  matrices = factors n m seed ∷ zero_grid n n ∷ right_side n m seed ∷ [];
  statements = statement 0 1 (0 ∷ 0 ∷ []) ∷ statement 1 1 [] ∷ statement 2 2 (1 ∷ []) ∷ statement 3 2 (1 ∷ []) ∷ [];
  prints = 1 ∷ 2 ∷ [];
}
