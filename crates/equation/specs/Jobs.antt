-- Which statements fit a job, and which jobs are valid.
use Rattle.std.specs.Prelude.{◌≡◌, ◌≢◌, ℕ, ◌+◌, ◌*◌, ◌<◌, ◌≤◌, List, [], ◌∷◌, length, map, slice_get, slice_index_or, Some, All}
use Rattle.residue_sums.specs.Residues.{IsModulus}
use Rattle.residue_sums.specs.Grids.{Grid, IsFull, AreResidues}
use Rattle.operation_spec.specs.declared.operation.Operation.{Operation}
use Rattle.operation_spec.specs.declared.operation.Operand.{Operand}
use Rattle.operation_spec.specs.declared.operation.Binding.{Binding}
use Rattle.operation_spec.specs.ValidOperations.{IsValid}
use Rattle.equation.specs.declared.job.Job.{Job}
use Rattle.equation.specs.declared.job.Statement.{Statement}

abbrev pub no_grid : Grid
no_grid = record { rows = 0; cols = 0; entries = [] }

-- the matrix with a number
abbrev pub nth_grid : List Grid → ℕ → Grid
nth_grid grids n = slice_index_or grids n no_grid

-- the matrices that the known operands are bound to
abbrev pub known_grids : List Grid → Binding → List Grid
known_grids grids bind = map (nth_grid grids) bind.knowns

-- the operand's dimensions have the lengths of the matrix
pub record HasLengths (lengths : ℕ → ℕ) (o : Operand) (g : Grid) : Type 0 where
  pub rows : g.rows ≡ lengths o.rows
  pub cols : g.cols ≡ lengths o.cols

-- each operand has a matrix, each dimension one length over them, and the work matrix is bound to no known operand
pub record Fits (op : Operation) (grids : List Grid) (bind : Binding) : Type 0 where
  pub work_in : bind.work < length grids
  pub knowns_in : All (λ k. k < length grids) bind.knowns
  pub count : length bind.knowns ≡ length op.knowns
  pub lengths : ℕ → ℕ
  pub work : HasLengths lengths op.work (nth_grid grids bind.work)
  pub knowns : (k : ℕ) → k < length op.knowns → HasLengths lengths (slice_index_or op.knowns k op.work) (nth_grid (known_grids grids bind) k)
  pub apart : All (λ k. k ≢ bind.work) bind.knowns

-- the statement's operation exists, and its matrices fit it
pub record IsStatement (job : Job) (s : Statement) : Type 0 where
  pub operation : Operation
  pub found : slice_get job.operations s.operation ≡ Some operation
  pub fits : Fits operation job.matrices s.bind

-- how many entries matrices have together
abbrev pub entry_count : List Grid → ℕ
entry_count [] = 0
entry_count (g ∷ grids) = g.rows * g.cols + entry_count grids

-- how many operations, matrices and statements a job may have; a text may have fewer
abbrev pub count_limit : ℕ
count_limit = 65536

-- a job that means something
pub record IsJob (job : Job) : Type 0 where
  pub modulus : IsModulus job.modulus
  pub few_operations : length job.operations ≤ count_limit
  pub few_matrices : length job.matrices ≤ count_limit
  pub few_statements : length job.statements ≤ count_limit
  pub operations : All IsValid job.operations
  pub named : length job.names ≡ length job.matrices
  pub full : All IsFull job.matrices
  pub residues : All (AreResidues job.modulus) job.matrices
  pub statements : All (IsStatement job) job.statements
  pub prints : All (λ n. n < length job.matrices) job.prints
  pub entries : entry_count job.matrices ≤ 16777216
