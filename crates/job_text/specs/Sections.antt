-- What a section of a job has due: the block that begins with the first line.
use Rattle.std.specs.Prelude.{ℕ, List, Result}
use Rattle.byte_texts.specs.Reading.{◌>>=◌}
use Rattle.text_scan.specs.Faults.{Fault}
use Rattle.text_scan.specs.Lines.{Line, due_line}
use Rattle.operation_spec.specs.declared.operation.Operation.{Operation}
use Rattle.matrix_text.specs.MatrixFaults.{NamedGrid}
use Rattle.job_text.specs.JobFaults.{Matrices, next_matrix_at, next_operation_at}

-- the block that begins with the line that is due, behind these
abbrev pub operation_in : ℕ → List Operation → List Line → Result (Operation × List Line) Fault
operation_in end found lines = due_line end lines >>= λ line. next_operation_at end found line.0 line.1

abbrev pub matrix_in : ℕ → ℕ → Matrices → List Line → Result (NamedGrid × List Line) Fault
matrix_in end m found lines = due_line end lines >>= λ line. next_matrix_at end m found line.0 line.1
