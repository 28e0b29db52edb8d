-- The faults of the second part of an input that has a block for each statement of a job: for each line the tests in their
-- order. Where no line has a fault, the lines say matrices.
use Rattle.std.specs.Prelude.{ℕ, List, [], ◌∷◌, ◌++◌, codes, drop, Result, Ok, Bool, ◌&&◌, ◌||◌, not, ◌==◌}
use Rattle.std.specs.Str.{bytes_eq}
use Rattle.residue_sums.specs.Grids.{Grid}
use Rattle.byte_texts.specs.Reading.{◌>>=◌}
use Rattle.text_scan.specs.declared.Rest.{Rest}
use Rattle.text_scan.specs.declared.token.Token.{Token}
use Rattle.text_scan.specs.FaultKinds.{Binding, Syntax}
use Rattle.text_scan.specs.Faults.{Fault, ◌on◌, first_fault}
use Rattle.text_scan.specs.Lines.{Line, due_line, end_line_of, lines_of, nth_word}
use Rattle.text_scan.specs.Tokens.{BadByte, scanned, tokens_of}
use Rattle.text_scan.specs.Words.{number_value}
use Rattle.matrix_text.specs.MatrixFaults.{grid_at, is_sized_line}
use Rattle.equation.specs.declared.job.Job.{Job}
use Rattle.equation.specs.declared.job.Statement.{Statement}
use Rattle.job_text.specs.AfterBlocks.{work_grid, work_name}
use Rattle.job_text.specs.JobFaults.{nothing_at}

-- ---- `after NAME ROWS COLS`

abbrev pub is_after_line : List (List ℕ) → Bool
is_after_line words = is_sized_line (codes "after") words

-- it has the name, and as many rows and columns as the matrix
abbrev pub is_block_of : List ℕ → Grid → List (List ℕ) → Bool
is_block_of name g words = bytes_eq (nth_word words 1) name && number_value (nth_word words 2) == g.rows && number_value (nth_word words 3) == g.cols

-- the tests of a block's first line, where the matrix is due under the name; another line is due behind it
unfoldable pub after_head_at : ℕ → List ℕ → Grid → Line → Result (Unit {0}) Fault
after_head_at end name g line = first_fault (
    record { holds = line.number == end || not (is_after_line line.words); fault = Syntax on line.number }
    ∷ record { holds = not (is_block_of name g line.words); fault = Binding on line.number }
    ∷ []) tt

-- ---- the blocks

-- the block that is due, with entries below m, and the lines behind it
unfoldable pub block_at : ℕ → ℕ → List ℕ → Grid → List Line → Result (Grid × List Line) Fault
block_at end m name g lines = do
  line ← due_line end lines
  head ← after_head_at end name g line.0
  grid_at end m g.rows g.cols line.1

-- the blocks of these statements, behind the matrices that were found, and the lines behind them
unfoldable pub blocks_at : ℕ → Job → List Grid → List Statement → List Line → Result (List Grid × List Line) Fault
blocks_at end job found [] lines = Ok (found, lines)
blocks_at end job found (s ∷ statements) lines = do
  read ← block_at end job.modulus (work_name job s) (work_grid job s) lines
  blocks_at end job (found ++ read.0 ∷ []) statements read.1

-- a block for each statement, and no line behind them
unfoldable pub after_at : ℕ → Job → List Line → Result (List Grid) Fault
after_at end job lines = do
  read ← blocks_at end job [] job.statements lines
  done ← nothing_at read.1
  Ok read.0

-- the matrices that the tokens of bytes say, the first of which is on a line, or their first fault
abbrev pub after_of : ℕ → List ℕ → Job → Result (List Token) BadByte → Result (List Grid) Fault
after_of first_line bytes job read = scanned read >>= λ tokens. after_at (end_line_of first_line bytes) job (lines_of bytes tokens)

-- the matrices that the bytes from there on say; their first line has the number of rest
abbrev pub after_in : List ℕ → Rest → Job → Result (List Grid) Fault
after_in bytes rest job = after_of rest.line (drop rest.at bytes) job (tokens_of rest.line (drop rest.at bytes))
