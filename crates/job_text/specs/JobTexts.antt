-- A job as text, block by block.
use Rattle.std.specs.Prelude.{ℕ, List, [], ◌∷◌, ◌++◌, codes, decimal, map}
use Rattle.std.specs.List.{flat_map}
use Rattle.residue_sums.specs.Grids.{Grid}
use Rattle.matrix_text.specs.MatrixTexts.{matrix_text}
use Rattle.text_scan.specs.NormalTexts.{lines_text}
use Rattle.operation_spec.specs.OperationLines.{operation_lines}
use Rattle.equation.specs.declared.job.Job.{Job}
use Rattle.job_text.specs.JobLines.{print_line, statement_line}

-- the blocks of matrices, each under its name
abbrev pub matrix_texts : List (List ℕ) → List Grid → List ℕ
matrix_texts (name ∷ names) (g ∷ grids) = matrix_text name g ++ matrix_texts names grids
matrix_texts _ _ = []

-- `flame 1`, the modulus, the blocks of operations and of matrices, the statements, and what is printed
abbrev pub job_text : Job → List ℕ
job_text job = lines_text ((codes "flame" ∷ codes "1" ∷ []) ∷ (codes "modulus" ∷ decimal job.modulus ∷ []) ∷ [])
    ++ flat_map (λ op. lines_text (operation_lines op)) job.operations
    ++ matrix_texts job.names job.matrices
    ++ lines_text (map (statement_line job) job.statements)
    ++ lines_text (map (print_line job) job.prints)
