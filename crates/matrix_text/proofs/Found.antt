-- What the readers of a matrix answer is spelled by the lines that they took off.
use Rattle.std.proofs.Common.{ℕ, ◌≤◌, ◌^◌, List, Result, Ok, Err, IfOk}
use Rattle.residue_sums.specs.Grids.{Grid}
use Rattle.byte_texts.specs.Reading.{Gives}
use Rattle.text_scan.specs.LineOrder.{AreLines}
use Rattle.text_scan.specs.Lines.{Line}
use Rattle.matrix_text.specs.declared.fault.MatrixFault.{MatrixFault}
use Rattle.matrix_text.specs.MatrixFaults.{grid_at, matrix_at, matrix_fault}
use Rattle.matrix_text.specs.MatrixLines.{SpellsMatrix, SpellsRows}
use Rattle.matrix_text.proofs.MatrixSpelling.{grid_takes, matrix_takes}

pub found_matrix : (end m room : ℕ) (lines rest : List Line) (read : Result (List ℕ × Grid) MatrixFault) → m ≤ 2 ^ 64 → AreLines end lines
    → Gives matrix_fault (λ x. (record { name = x.0; grid = x.1 }, rest)) read (matrix_at end m room lines) → IfOk read (λ x. SpellsMatrix m room lines x.0 x.1 rest)
found_matrix end m room lines rest (Ok x) small are gives = matrix_takes end m room lines x.0 x.1 rest small are gives
found_matrix end m room lines rest (Err fault) small are gives = tt

pub found_rows : (end m rows cols : ℕ) (lines rest : List Line) (read : Result Grid MatrixFault) → m ≤ 2 ^ 64 → AreLines end lines
    → Gives matrix_fault (λ x. (x, rest)) read (grid_at end m rows cols lines) → IfOk read (λ x. SpellsRows m rows cols lines x rest)
found_rows end m rows cols lines rest (Ok x) small are gives = grid_takes end m rows cols lines x rest small are gives
found_rows end m rows cols lines rest (Err fault) small are gives = tt
