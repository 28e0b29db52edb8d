-- The faults of the lines of a job: for each line the tests in their order, over what was declared above it. Where no
-- line has a fault, the lines say a job.
use Rattle.std.specs.Prelude.{ℕ, zero, suc, ◌-◌, ◌^◌, List, [], ◌∷◌, ◌++◌, length, drop, slice_get, codes, map, Option, Some, None, Result, Ok, Err, Bool, false, ◌&&◌, ◌||◌, not, nat_lt, nat_le, ◌==◌, if◌then◌else◌}
use Rattle.std.specs.List.{list_all}
use Rattle.std.specs.Str.{bytes_eq}
use Rattle.residue_sums.specs.Grids.{Grid}
use Rattle.byte_texts.specs.Reading.{◌>>=◌}
use Rattle.text_scan.specs.FaultKinds.{BadByte, Header, TrailingText, Syntax, Modulus, Limit, NameTwice, NameUnknown, TooManyTerms, Shape, Form, TooLarge, RowLength, EntryRange, Binding, Alias}
use Rattle.text_scan.specs.Faults.{Fault, ◌on◌, first_fault}
use Rattle.text_scan.specs.Lines.{Line, begins_with, due_line, nth_word}
use Rattle.text_scan.specs.Names.{number_of, is_among}
use Rattle.text_scan.specs.Words.{is_name, is_number, number_value}
use Rattle.operation_spec.specs.declared.operation.Operation.{Operation}
use Rattle.operation_spec.specs.declared.operation.Operand.{Operand}
use Rattle.operation_spec.specs.OperationFaults.{is_name_line, operation_at}
use Rattle.matrix_text.specs.MatrixFaults.{NamedGrid, is_heading, matrix_at}
use Rattle.equation.specs.declared.job.Job.{Job}
use Rattle.equation.specs.declared.job.Statement.{Statement}
use Rattle.equation.specs.Jobs.{entry_count, nth_grid}
use Rattle.job_text.specs.declared.binding.Length.{Length}
use Rattle.job_text.specs.declared.fault.JobFault.{JobFault}
use Rattle.job_text.specs.declared.fault.JobFault.TheVariants as job_faults

-- ---- limits of the text

abbrev pub operation_limit : ℕ
operation_limit = 16

abbrev pub matrix_limit : ℕ
matrix_limit = 32

abbrev pub statement_limit : ℕ
statement_limit = 16

-- how many entries all matrices may have
abbrev pub entry_limit : ℕ
entry_limit = 4194304

-- ---- faults

-- the fault that an error names; want of memory names none
abbrev pub job_fault : JobFault → Option Fault
job_fault job_faults.Memory = None
job_fault (job_faults.BadByte line) = Some (BadByte on line)
job_fault (job_faults.Header line) = Some (Header on line)
job_fault (job_faults.TrailingText line) = Some (TrailingText on line)
job_fault (job_faults.Syntax line) = Some (Syntax on line)
job_fault (job_faults.Modulus line) = Some (Modulus on line)
job_fault (job_faults.Limit line) = Some (Limit on line)
job_fault (job_faults.NameTwice line) = Some (NameTwice on line)
job_fault (job_faults.NameUnknown line) = Some (NameUnknown on line)
job_fault (job_faults.TooManyTerms line) = Some (TooManyTerms on line)
job_fault (job_faults.Shape line) = Some (Shape on line)
job_fault (job_faults.Form line) = Some (Form on line)
job_fault (job_faults.TooLarge line) = Some (TooLarge on line)
job_fault (job_faults.RowLength line) = Some (RowLength on line)
job_fault (job_faults.EntryRange line) = Some (EntryRange on line)
job_fault (job_faults.Binding line) = Some (Binding on line)
job_fault (job_faults.Alias line) = Some (Alias on line)

-- ---- `flame 1`, behind which a line is due

abbrev pub is_header : List (List ℕ) → Bool
is_header (first ∷ version ∷ []) = bytes_eq first (codes "flame") && bytes_eq version (codes "1")
is_header _ = false

unfoldable pub header_at : ℕ → List Line → Result (List Line) Fault
header_at end [] = Err (Header on end)
header_at end (line ∷ lines) = first_fault (
    record { holds = not (is_header line.words); fault = Header on line.number }
    ∷ record { holds = line.number == end; fault = Syntax on line.number }
    ∷ []) lines

-- ---- `modulus M`

abbrev pub is_modulus_line : List (List ℕ) → Bool
is_modulus_line (first ∷ m ∷ []) = bytes_eq first (codes "modulus") && is_number m
is_modulus_line _ = false

abbrev pub modulus_of : List (List ℕ) → ℕ
modulus_of words = number_value (nth_word words 1)

unfoldable pub modulus_at : Line → Result ℕ Fault
modulus_at line = let m = modulus_of line.words in first_fault (
    record { holds = not (is_modulus_line line.words); fault = Syntax on line.number }
    ∷ record { holds = nat_lt m 2 || nat_le (2 ^ 32) m; fault = Modulus on line.number }
    ∷ []) m

-- ---- operation blocks

-- the tests of a block's first line that speak of the blocks above it; another line is due behind it
unfoldable pub operation_head_at : ℕ → List Operation → Line → Result (Unit {0}) Fault
operation_head_at end found line = first_fault (
    record { holds = line.number == end || not (is_name_line line.words); fault = Syntax on line.number }
    ∷ record { holds = nat_le operation_limit (length found); fault = Limit on line.number }
    ∷ record { holds = is_among (map (λ op. op.name) found) (nth_word line.words 1); fault = NameTwice on line.number }
    ∷ []) tt

-- a block, and the lines behind it
unfoldable pub next_operation_at : ℕ → List Operation → Line → List Line → Result (Operation × List Line) Fault
next_operation_at end found line lines = do
  head ← operation_head_at end found line
  operation_at end (line ∷ lines)

-- the operations behind those found, and the lines behind them, so many blocks at most
unfoldable pub operations_at : ℕ → ℕ → List Operation → List Line → Result (List Operation × List Line) Fault
operations_at zero end found lines = Ok (found, lines)
operations_at (suc blocks) end found [] = Ok (found, [])
operations_at (suc blocks) end found (line ∷ lines) =
    if begins_with (codes "operation") line.words
    then (next_operation_at end found line lines >>= λ read. operations_at blocks end (found ++ read.0 ∷ []) read.1)
    else Ok (found, line ∷ lines)

-- ---- matrix blocks

-- matrices with their names
pub record Matrices : Type 0 where
  pub names : List (List ℕ)
  pub grids : List Grid

abbrev pub with_matrix : Matrices → NamedGrid → Matrices
with_matrix found new = record { names = found.names ++ new.name ∷ []; grids = found.grids ++ new.grid ∷ [] }

unfoldable pub matrix_head_at : ℕ → Matrices → Line → Result (Unit {0}) Fault
matrix_head_at end found line = first_fault (
    record { holds = line.number == end || not (is_heading line.words); fault = Syntax on line.number }
    ∷ record { holds = nat_le matrix_limit (length found.grids); fault = Limit on line.number }
    ∷ record { holds = is_among found.names (nth_word line.words 1); fault = NameTwice on line.number }
    ∷ []) tt

unfoldable pub next_matrix_at : ℕ → ℕ → Matrices → Line → List Line → Result (NamedGrid × List Line) Fault
next_matrix_at end m found line lines = do
  head ← matrix_head_at end found line
  matrix_at end m (entry_limit - entry_count found.grids) (line ∷ lines)

unfoldable pub matrices_at : ℕ → ℕ → ℕ → Matrices → List Line → Result (Matrices × List Line) Fault
matrices_at zero end m found lines = Ok (found, lines)
matrices_at (suc blocks) end m found [] = Ok (found, [])
matrices_at (suc blocks) end m found (line ∷ lines) =
    if begins_with (codes "matrix") line.words
    then (next_matrix_at end m found line lines >>= λ read. matrices_at blocks end m (with_matrix found read.0) read.1)
    else Ok (found, line ∷ lines)

-- ---- `do OP MATRIX ..`

abbrev pub is_statement_line : List (List ℕ) → Bool
is_statement_line (first ∷ operation ∷ names) = bytes_eq first (codes "do") && is_name operation && list_all is_name names
is_statement_line _ = false

-- the matrices of a statement line, by their numbers
abbrev pub bound_of : List (List ℕ) → List (List ℕ) → List ℕ
bound_of names words = map (number_of names) (drop 2 words)

abbrev pub operation_number : List Operation → List (List ℕ) → ℕ
operation_number operations words = number_of (map (λ op. op.name) operations) (nth_word words 1)

-- the lengths that matrices give the dimensions of their operands
abbrev pub lengths_of : List Operand → List Grid → List Length
lengths_of (o ∷ operands) (g ∷ grids) = record { dim = o.rows; length_of = g.rows } ∷ record { dim = o.cols; length_of = g.cols } ∷ lengths_of operands grids
lengths_of _ _ = []

-- a dimension has two lengths
abbrev pub has_two_lengths : List Length → Bool
has_two_lengths [] = false
has_two_lengths (a ∷ lengths) = not (list_all (λ b. not (b.dim == a.dim) || b.length_of == a.length_of) lengths) || has_two_lengths lengths

abbrev pub statement_of : ℕ → List ℕ → Statement
statement_of operation [] = record { operation = operation; bind = record { work = 0; knowns = [] } }
statement_of operation (work ∷ knowns) = record { operation = operation; bind = record { work = work; knowns = knowns } }

abbrev pub has_alias : List ℕ → Bool
has_alias [] = false
has_alias (work ∷ knowns) = not (list_all (λ k. not (k == work)) knowns)

-- the operation's operands can't stand for these matrices
abbrev pub is_misbound : Operation → List Grid → List ℕ → Bool
is_misbound op grids bound = not (length bound == length (op.work ∷ op.knowns))
    || has_two_lengths (lengths_of (op.work ∷ op.knowns) (map (nth_grid grids) bound))

unfoldable pub bound_at : Line → Operation → List Grid → ℕ → List ℕ → Result Statement Fault
bound_at line op grids operation bound = first_fault (
    record { holds = is_misbound op grids bound; fault = Binding on line.number }
    ∷ record { holds = has_alias bound; fault = Alias on line.number }
    ∷ []) (statement_of operation bound)

abbrev pub nth_bound : Line → List Operation → List Grid → ℕ → List ℕ → Result Statement Fault
nth_bound line operations grids n bound = found (slice_get operations n)
  where
    found : Option Operation → Result Statement Fault
    found None = Err (NameUnknown on line.number)
    found (Some op) = bound_at line op grids n bound

-- the tests that come before the matrices are held against the operation
unfoldable pub statement_head_at : List Operation → Matrices → List Statement → Line → Result (Unit {0}) Fault
statement_head_at operations matrices found line = first_fault (
    record { holds = not (is_statement_line line.words); fault = Syntax on line.number }
    ∷ record { holds = nat_le statement_limit (length found); fault = Limit on line.number }
    ∷ record { holds = not (is_among (map (λ op. op.name) operations) (nth_word line.words 1)) || not (list_all (is_among matrices.names) (drop 2 line.words)); fault = NameUnknown on line.number }
    ∷ []) tt

unfoldable pub statement_at : List Operation → Matrices → List Statement → Line → Result Statement Fault
statement_at operations matrices found line = do
  head ← statement_head_at operations matrices found line
  nth_bound line operations matrices.grids (operation_number operations line.words) (bound_of matrices.names line.words)

unfoldable pub statements_at : List Operation → Matrices → List Statement → List Line → Result (List Statement × List Line) Fault
statements_at operations matrices found [] = Ok (found, [])
statements_at operations matrices found (line ∷ lines) =
    if begins_with (codes "do") line.words
    then (statement_at operations matrices found line >>= λ s. statements_at operations matrices (found ++ s ∷ []) lines)
    else Ok (found, line ∷ lines)

-- ---- `print MATRIX`

abbrev pub is_print_line : List (List ℕ) → Bool
is_print_line (first ∷ name ∷ []) = bytes_eq first (codes "print") && is_name name
is_print_line _ = false

-- the number is among these
abbrev pub has_number : List ℕ → ℕ → Bool
has_number numbers n = not (list_all (λ k. not (k == n)) numbers)

unfoldable pub print_at : List (List ℕ) → List ℕ → Line → Result ℕ Fault
print_at names found line = let n = number_of names (nth_word line.words 1) in first_fault (
    record { holds = not (is_print_line line.words); fault = Syntax on line.number }
    ∷ record { holds = has_number found n; fault = NameTwice on line.number }
    ∷ record { holds = not (is_among names (nth_word line.words 1)); fault = NameUnknown on line.number }
    ∷ []) n

unfoldable pub prints_at : List (List ℕ) → List ℕ → List Line → Result (List ℕ × List Line) Fault
prints_at names found [] = Ok (found, [])
prints_at names found (line ∷ lines) =
    if begins_with (codes "print") line.words
    then (print_at names found line >>= λ n. prints_at names (found ++ n ∷ []) lines)
    else Ok (found, line ∷ lines)

-- ---- the whole job: its sections in their order, and nothing behind them

unfoldable pub nothing_at : List Line → Result (Unit {0}) Fault
nothing_at [] = Ok tt
nothing_at (line ∷ lines) = Err (TrailingText on line.number)

unfoldable pub first_lines_at : ℕ → List Line → Result (ℕ × List Line) Fault
first_lines_at end lines = do
  behind ← header_at end lines
  line ← due_line end behind
  m ← modulus_at line.0
  Ok (m, line.1)

-- the job with this modulus that the lines behind it say; a section's blocks are read up to one that is one too many
unfoldable pub sections_at : ℕ → ℕ → List Line → Result Job Fault
sections_at end m lines = do
  operations ← operations_at (suc operation_limit) end [] lines
  matrices ← matrices_at (suc matrix_limit) end m (record { names = []; grids = [] }) operations.1
  statements ← statements_at operations.0 matrices.0 [] matrices.1
  prints ← prints_at matrices.0.names [] statements.1
  done ← nothing_at prints.1
  Ok (record { modulus = m; operations = operations.0; names = matrices.0.names; matrices = matrices.0.grids; statements = statements.0; prints = prints.0 })

unfoldable pub job_at : ℕ → List Line → Result Job Fault
job_at end lines = do
  first ← first_lines_at end lines
  sections_at end first.0 first.1
