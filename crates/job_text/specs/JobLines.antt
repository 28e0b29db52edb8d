-- A job as lines of words: its normal text.
use Rattle.std.specs.Prelude.{ℕ, List, [], ◌∷◌, ◌++◌, codes, decimal, map}
use Rattle.std.specs.List.{flat_map}
use Rattle.residue_sums.specs.Grids.{Grid}
use Rattle.operation_spec.specs.OperationLines.{nth_name, operation_lines}
use Rattle.matrix_text.specs.MatrixLines.{matrix_lines}
use Rattle.equation.specs.declared.job.Job.{Job}
use Rattle.equation.specs.declared.job.Statement.{Statement}

-- the blocks of matrices, each under its name
abbrev pub matrix_blocks : List (List ℕ) → List Grid → List (List (List ℕ))
matrix_blocks (name ∷ names) (g ∷ grids) = matrix_lines name g ++ matrix_blocks names grids
matrix_blocks _ _ = []

abbrev pub operation_names : Job → List (List ℕ)
operation_names job = map (λ op. op.name) job.operations

-- `do`, the operation, the work matrix, and the known ones
abbrev pub statement_line : Job → Statement → List (List ℕ)
statement_line job s = codes "do" ∷ nth_name (operation_names job) s.operation ∷ nth_name job.names s.bind.work ∷ map (nth_name job.names) s.bind.knowns

abbrev pub print_line : Job → ℕ → List (List ℕ)
print_line job n = codes "print" ∷ nth_name job.names n ∷ []

abbrev pub job_lines : Job → List (List (List ℕ))
job_lines job = (codes "flame" ∷ codes "1" ∷ [])
    ∷ (codes "modulus" ∷ decimal job.modulus ∷ [])
    ∷ flat_map operation_lines job.operations
    ++ matrix_blocks job.names job.matrices
    ++ map (statement_line job) job.statements
    ++ map (print_line job) job.prints
