-- The faults of the lines of a matrix: for each line the tests in their order. Where no line has a fault, the lines say
-- a matrix.
use Rattle.std.specs.Prelude.{ℕ, zero, suc, ◌*◌, List, [], ◌∷◌, ◌++◌, length, codes, map, Result, Ok, Err, Option, Some, None, Bool, false, ◌&&◌, ◌||◌, not, nat_lt, ◌==◌, if◌then◌else◌}
use Rattle.std.specs.List.{list_all}
use Rattle.std.specs.Str.{bytes_eq}
use Rattle.residue_sums.specs.Grids.{Grid}
use Rattle.byte_texts.specs.Reading.{◌>>=◌}
use Rattle.text_scan.specs.FaultKinds.{Syntax, TooLarge, RowLength, EntryRange}
use Rattle.text_scan.specs.Faults.{Fault, ◌on◌, first_fault}
use Rattle.text_scan.specs.Lines.{Line, due_line, inner_line, is_end, nth_word}
use Rattle.text_scan.specs.Words.{is_name, is_number, number_value}
use Rattle.matrix_text.specs.declared.fault.MatrixFault.{MatrixFault}
use Rattle.matrix_text.specs.declared.fault.MatrixFault.TheVariants as matrix_faults
use Rattle.matrix_text.specs.MatrixLines.{size_limit}

-- the fault that an error names; want of memory names none
abbrev pub matrix_fault : MatrixFault → Option Fault
matrix_fault matrix_faults.Memory = None
matrix_fault (matrix_faults.Syntax line) = Some (Syntax on line)
matrix_fault (matrix_faults.TooLarge line) = Some (TooLarge on line)
matrix_fault (matrix_faults.RowLength line) = Some (RowLength on line)
matrix_fault (matrix_faults.EntryRange line) = Some (EntryRange on line)

-- ---- the first line: `matrix NAME ROWS COLS`

-- what the first line of a matrix says
pub record Heading : Type 0 where
  pub name : List ℕ
  pub rows : ℕ
  pub cols : ℕ

-- `WORD NAME ROWS COLS`, the first line of a matrix that stands under this word
abbrev pub is_sized_line : List ℕ → List (List ℕ) → Bool
is_sized_line w (first ∷ name ∷ rows ∷ cols ∷ []) = bytes_eq first w && is_name name && is_number rows && is_number cols
is_sized_line w _ = false

abbrev pub is_heading : List (List ℕ) → Bool
is_heading words = is_sized_line (codes "matrix") words

abbrev pub heading_of : List (List ℕ) → Heading
heading_of words = record { name = nth_word words 1; rows = number_value (nth_word words 2); cols = number_value (nth_word words 3) }

-- how many entries there is room for, the rows and the columns
abbrev pub is_too_large : ℕ → ℕ → ℕ → Bool
is_too_large room rows cols = nat_lt size_limit rows || nat_lt size_limit cols || nat_lt room (rows * cols)

unfoldable pub heading_at : ℕ → Line → Result Heading Fault
heading_at room line = let heading = heading_of line.words in first_fault (
    record { holds = not (is_heading line.words); fault = Syntax on line.number }
    ∷ record { holds = is_too_large room heading.rows heading.cols; fault = TooLarge on line.number }
    ∷ []) heading

-- ---- a row: numbers, as many as there are columns

unfoldable pub row_at : ℕ → ℕ → Line → Result (List ℕ) Fault
row_at m cols line = first_fault (
    record { holds = not (is_end line.words) && not (list_all is_number line.words); fault = Syntax on line.number }
    ∷ record { holds = is_end line.words || not (length line.words == cols); fault = RowLength on line.number }
    ∷ record { holds = not (list_all (λ w. nat_lt (number_value w) m) line.words); fault = EntryRange on line.number }
    ∷ []) (map number_value line.words)

-- the row that is due, and the lines behind it
unfoldable pub next_row_at : ℕ → ℕ → ℕ → List Line → Result (List ℕ × List Line) Fault
next_row_at end m cols lines = do
  line ← inner_line end lines
  row ← row_at m cols line.0
  Ok (row, line.1)

-- so many rows, and the lines behind them
unfoldable pub rows_at : ℕ → ℕ → ℕ → ℕ → List Line → Result (List ℕ × List Line) Fault
rows_at end m cols zero lines = Ok ([], lines)
rows_at end m cols (suc rows) lines = do
  row ← next_row_at end m cols lines
  others ← rows_at end m cols rows row.1
  Ok (row.0 ++ others.0, others.1)

-- numbers that were found before, and behind them those that words are, where each is below m
abbrev pub numbers_behind : ℕ → Fault → List ℕ → List (List ℕ) → Result (List ℕ) Fault
numbers_behind m fault found words = if list_all (λ w. nat_lt (number_value w) m) words then Ok (found ++ map number_value words) else Err fault

-- entries that were found before those of the row that is read
abbrev pub with_row : List ℕ → Result (List ℕ) Fault → Result (List ℕ) Fault
with_row found read = read >>= λ row. Ok (found ++ row)

-- and before those of the rows, in front of lines
abbrev pub with_entries : List ℕ → Result (List ℕ × List Line) Fault → Result (List ℕ × List Line) Fault
with_entries found read = read >>= λ x. Ok (found ++ x.0, x.1)

-- ---- the whole matrix

-- the last line, and the lines behind it
unfoldable pub last_at : ℕ → List Line → Result (List Line) Fault
last_at end lines = do
  line ← due_line end lines
  first_fault (record { holds = not (is_end line.0.words); fault = Syntax on line.0.number } ∷ []) line.1

-- the matrix of so many rows and columns that the lines behind its first one say, and the lines behind it; with no columns
-- no row is due
abbrev pub grid_at : ℕ → ℕ → ℕ → ℕ → List Line → Result (Grid × List Line) Fault
grid_at end m rows cols lines = do
  entries ← rows_at end m cols (if cols == 0 then 0 else rows) lines
  behind ← last_at end entries.1
  Ok (record { rows = rows; cols = cols; entries = entries.0 }, behind)

-- a matrix and its name
pub record NamedGrid : Type 0 where
  pub name : List ℕ
  pub grid : Grid

-- the matrix that the first lines say, and the lines behind them
unfoldable pub matrix_at : ℕ → ℕ → ℕ → List Line → Result (NamedGrid × List Line) Fault
matrix_at end m room lines = do
  first ← inner_line end lines
  heading ← heading_at room first.0
  grid ← grid_at end m heading.rows heading.cols first.1
  Ok (record { name = heading.name; grid = grid.0 }, grid.1)
