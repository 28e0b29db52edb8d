-- The definitions of job texts, computed on small texts and their faults.
use Rattle.std.proofs.Common.{◌≡◌, ℕ, ◌+◌, ◌-◌, List, [], ◌∷◌, ◌++◌, take, drop, map, Result, Ok, Err, Option, Some, None, refl, codes}
use Rattle.text_scan.specs.Faults.{Fault, ◌on◌}
use Rattle.text_scan.specs.FaultKinds.{Alias, BadByte, Binding, EntryRange, Form, Header, Modulus, NameTwice, NameUnknown, RowLength, Shape, Syntax, TooLarge, TooManyTerms, TrailingText}
use Rattle.text_scan.specs.declared.Rest.{Rest}
use Rattle.text_scan.specs.Tokens.{front_of, tokens_from}
use Rattle.operation_spec.specs.Equations.{equation_of}
use Rattle.operation_spec.specs.OperationFaults.{name_at, dims_at, work_at, known_at, knowns_at, sides_at, equation_at, end_at, declared_at, operation_at}
use Rattle.matrix_text.specs.MatrixFaults.{heading_at, row_at, next_row_at, rows_at, last_at, matrix_at}
use Rattle.equation.specs.declared.job.Job.{Job}
use Rattle.job_text.specs.declared.stop.Stop.TheVariants.{Nothing}
use Rattle.job_text.specs.JobFaults.{header_at, modulus_at, operation_head_at, next_operation_at, operations_at, matrix_head_at, next_matrix_at, matrices_at, bound_at, statement_head_at, statement_at, statements_at, print_at, prints_at, nothing_at, first_lines_at, job_at, sections_at}
use Rattle.job_text.specs.SpelledJobs.{job_in}

-- the fault of a text, where it has one
fault_in : List ℕ → Option Fault
fault_in text = of (job_in Nothing text)
  where
    of : Result (Job × Rest) Fault → Option Fault
    of (Ok read) = None
    of (Err fault) = Some fault

-- the lines of a text whose one fault is that the work matrix of its last line is bound to known operands, too
abbrev base : List (List ℕ)
base = codes "flame 1" ∷ codes "modulus 7" ∷ codes "operation mul" ∷ codes "dims m n k" ∷ codes "work W general m n" ∷ codes "known A general m k" ∷ codes "known B general k n" ∷ codes "equation X = W + A * B" ∷ codes "end" ∷ codes "matrix P 1 1" ∷ codes "3" ∷ codes "end" ∷ codes "do mul P P P" ∷ []

-- each line and its line feed, and what stands behind them
abbrev text_of : List (List ℕ) → List ℕ → List ℕ
text_of [] last = last
text_of (line ∷ lines) last = line ++ codes "\n" ++ text_of lines last

-- another line behind so many
abbrev with_line : ℕ → List ℕ → List (List ℕ)
with_line n line = take n base ++ line ∷ drop (n + 1) base

-- what is changed of the base text, and the fault that it then has
abbrev Row : Type 0
Row = ℕ × List ℕ × Fault

-- lines by their numbers, and other lines in their places
abbrev changed_lines : List Row
changed_lines = (13, codes "do mul P P P", Alias on 13)
    ∷ (11, codes "7", EntryRange on 11)
    ∷ (11, codes "03", Syntax on 11)
    ∷ (8, codes "equation X = W + A * B + A * B + A * B", TooManyTerms on 8)
    ∷ (8, codes "equation X = W + A * C", NameUnknown on 8)
    ∷ (8, codes "equation X = W + B * A", Shape on 8)
    ∷ (8, codes "equation X = W", Form on 8)
    ∷ (13, codes "do mul P P", Binding on 13)
    ∷ (13, codes "modulus 7", TrailingText on 13)
    ∷ (10, codes "matrix P 1 1025", TooLarge on 10)
    ∷ (4, codes "dims m n k @", BadByte on 4)
    ∷ (13, codes "do mul P P Q", NameUnknown on 13)
    ∷ (13, codes "do mull P P P", NameUnknown on 13)
    ∷ (13, codes "print P\nprint P", NameTwice on 14)
    ∷ (13, codes "operation lu", TrailingText on 13)
    ∷ (13, codes "matrix P 1 1", NameTwice on 13)
    ∷ (10, codes "operation mul", NameTwice on 10)
    ∷ []

-- how many lines stay, and what stands behind them
abbrev cut_texts : List Row
cut_texts = (0, codes "", Header on 1)
    ∷ (8, codes "", Syntax on 9)
    ∷ (0, codes "flame 01\nmodulus 7\n", Header on 1)
    ∷ (0, codes "flame 1", Syntax on 1)
    ∷ (1, codes "modulus 1", Modulus on 2)
    ∷ (9, codes "matrix P 1 2\n3\n", RowLength on 11)
    ∷ (9, codes "matrix P 1 2\n3", Syntax on 11)
    ∷ (9, codes "operation mul", Syntax on 10)
    ∷ []

abbrev faults_due : List Row → List (Option Fault)
faults_due rows = map (λ row. Some row.2) rows

faults_of_changed_lines : map (λ (row : Row). fault_in (text_of (with_line (row.0 - 1) row.1) [])) changed_lines ≡ faults_due changed_lines
unfolding fault_in job_in job_at sections_at first_lines_at nothing_at prints_at print_at statements_at statement_at statement_head_at bound_at matrices_at next_matrix_at matrix_head_at operations_at next_operation_at operation_head_at modulus_at header_at matrix_at last_at rows_at next_row_at row_at heading_at operation_at declared_at end_at equation_at sides_at knowns_at known_at work_at dims_at name_at equation_of tokens_from front_of
faults_of_changed_lines = refl

faults_of_cut_texts : map (λ (row : Row). fault_in (text_of (take row.0 base) row.1)) cut_texts ≡ faults_due cut_texts
unfolding fault_in job_in job_at sections_at first_lines_at nothing_at prints_at print_at statements_at statement_at statement_head_at bound_at matrices_at next_matrix_at matrix_head_at operations_at next_operation_at operation_head_at modulus_at header_at matrix_at last_at rows_at next_row_at row_at heading_at operation_at declared_at end_at equation_at sides_at knowns_at known_at work_at dims_at name_at equation_of tokens_from front_of
faults_of_cut_texts = refl

-- a job of three statements
no_fault : fault_in (codes "flame 1\nmodulus 101\noperation lu\ndims n\nwork W general n n\nequation lu X = W\nend\noperation ulow\ndims n m\nwork W general n m\nknown T unitlower n n\nequation T * X = W\nend\noperation upp\ndims n m\nwork W general n m\nknown T upper n n\nequation T * X = W\nend\nmatrix A 2 2\n2 1\n4 5\nend\nmatrix B 2 1\n3\n9\nend\ndo lu A\ndo ulow B A\ndo upp B A\nprint A\nprint B\n") ≡ None
unfolding fault_in job_in job_at sections_at first_lines_at nothing_at prints_at print_at statements_at statement_at statement_head_at bound_at matrices_at next_matrix_at matrix_head_at operations_at next_operation_at operation_head_at modulus_at header_at matrix_at last_at rows_at next_row_at row_at heading_at operation_at declared_at end_at equation_at sides_at knowns_at known_at work_at dims_at name_at equation_of tokens_from front_of
no_fault = refl
