-- The result of a job as text: for each print the matrix under its name.
use Rattle.std.specs.Prelude.{ℕ, List}
use Rattle.std.specs.List.{flat_map}
use Rattle.residue_sums.specs.Grids.{Grid}
use Rattle.matrix_text.specs.MatrixTexts.{matrix_text}
use Rattle.operation_spec.specs.OperationLines.{nth_name}
use Rattle.equation.specs.Jobs.{nth_grid}
use Rattle.equation.specs.declared.job.Job.{Job}

-- the matrix with a number, as it stands in the end
abbrev pub printed_text : Job → List Grid → ℕ → List ℕ
printed_text job after n = matrix_text (nth_name job.names n) (nth_grid after n)

abbrev pub result_text : Job → List Grid → List ℕ
result_text job after = flat_map (printed_text job after) job.prints
