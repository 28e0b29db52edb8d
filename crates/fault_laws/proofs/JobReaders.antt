-- The readers of the lines of a job, on two texts that begin with the same lines.
use Rattle.std.proofs.Common.{◌≡◌, ℕ, zero, suc, ◌-◌, ◌==◌, not, Bool, true, false, List, [], ◌∷◌, ◌++◌, All, Option, Some, None, codes, slice_get, Result, Ok, Err, refl, if◌then◌else◌}
use Rattle.std.proofs.lemmas.List.Elements.{All-nil, All-cons, All-head, All-tail}
use Rattle.residue_sums.specs.Grids.{Grid}
use Rattle.byte_texts.specs.Reading.{◌>>=◌}
use Rattle.text_scan.specs.FaultKinds.{Alias, Binding, Header, Limit, Modulus, NameTwice, NameUnknown, Syntax, TrailingText}
use Rattle.text_scan.specs.Faults.{Fault, ◌on◌}
use Rattle.text_scan.specs.Lines.{Line, begins_with, due_line}
use Rattle.operation_spec.specs.declared.operation.Operation.{Operation}
use Rattle.equation.specs.declared.job.Job.{Job}
use Rattle.equation.specs.declared.job.Statement.{Statement}
use Rattle.job_text.specs.JobFaults.{Matrices, bound_at, bound_of, first_lines_at, header_at, is_header, job_at, matrices_at, matrix_head_at, matrix_limit, modulus_at, next_matrix_at, next_operation_at, nothing_at, nth_bound}
use Rattle.job_text.specs.JobFaults.{operation_head_at, operation_limit, operation_number, operations_at, print_at, prints_at, sections_at, statement_at, statement_head_at, statements_at, with_matrix, entry_limit}
use Rattle.equation.specs.Jobs.{entry_count}
use Rattle.fault_laws.proofs.MatrixReaders.{matrix_reads}
use Rattle.fault_laws.proofs.OperationReaders.{operation_reads}
use Rattle.fault_laws.proofs.Readers.{IsShared, OnLine, Reads, Stays, Tells, Texts, alone, due_reads, either_stays, fault_told, if_stays, line_shape, lines_alone, none_before, on_before, on_test, on_then, pair, reads_lines}
use Rattle.fault_laws.proofs.Readers.{refused, refused_past, taken, taken_past, test_stays, tests_stay, then_stays, value_alone, value_told}

-- ---- one line

modulus_on : (P : Fault → Type 0) (line : Line) → OnLine P line → Tells P (modulus_at line)
unfolding modulus_at
modulus_on P line may = on_test P _ _ _ (may Syntax tt) (on_test P _ _ _ (may Modulus tt) (value_told _))

operation_head_on : (P : Fault → Type 0) (end : ℕ) (found : List Operation) (line : Line) → OnLine P line → Tells P (operation_head_at end found line)
unfolding operation_head_at
operation_head_on P end found line may = on_test P _ _ _ (may Syntax tt) (on_test P _ _ _ (may Limit tt) (on_test P _ _ _ (may NameTwice tt) (value_told _)))

operation_head_same : (end other : ℕ) (found : List Operation) (line : Line) → (line.number == end) ≡ (line.number == other) → operation_head_at end found line ≡ operation_head_at other found line
unfolding operation_head_at
operation_head_same end other found line same = rw same refl

matrix_head_on : (P : Fault → Type 0) (end : ℕ) (found : Matrices) (line : Line) → OnLine P line → Tells P (matrix_head_at end found line)
unfolding matrix_head_at
matrix_head_on P end found line may = on_test P _ _ _ (may Syntax tt) (on_test P _ _ _ (may Limit tt) (on_test P _ _ _ (may NameTwice tt) (value_told _)))

matrix_head_same : (end other : ℕ) (found : Matrices) (line : Line) → (line.number == end) ≡ (line.number == other) → matrix_head_at end found line ≡ matrix_head_at other found line
unfolding matrix_head_at
matrix_head_same end other found line same = rw same refl

bound_on : (P : Fault → Type 0) (line : Line) (op : Operation) (grids : List Grid) (n : ℕ) (bound : List ℕ) → OnLine P line → Tells P (bound_at line op grids n bound)
unfolding bound_at
bound_on P line op grids n bound may = on_test P _ _ _ (may Binding tt) (on_test P _ _ _ (may Alias tt) (value_told _))

nth_bound_on : (P : Fault → Type 0) (line : Line) (operations : List Operation) (grids : List Grid) (n : ℕ) (bound : List ℕ) → OnLine P line → Tells P (nth_bound line operations grids n bound)
nth_bound_on P line operations grids n bound may = by_number (slice_get operations n) refl
  where
    by_number : (op : Option Operation) → slice_get operations n ≡ op → Tells P (nth_bound line operations grids n bound)
    by_number None is = rw is (fault_told (NameUnknown on line.number) (may NameUnknown tt))
    by_number (Some op) is = rw is (bound_on P line op grids n bound may)

statement_head_on : (P : Fault → Type 0) (operations : List Operation) (matrices : Matrices) (found : List Statement) (line : Line) → OnLine P line → Tells P (statement_head_at operations matrices found line)
unfolding statement_head_at
statement_head_on P operations matrices found line may = on_test P _ _ _ (may Syntax tt) (on_test P _ _ _ (may Limit tt) (on_test P _ _ _ (may NameUnknown tt) (value_told _)))

statement_on : (P : Fault → Type 0) (operations : List Operation) (matrices : Matrices) (found : List Statement) (line : Line) → OnLine P line → Tells P (statement_at operations matrices found line)
unfolding statement_at
statement_on P operations matrices found line may =
    on_then P (statement_head_at operations matrices found line) _ (statement_head_on P operations matrices found line may)
    (λ head. nth_bound_on P line operations matrices.grids (operation_number operations line.words) (bound_of matrices.names line.words) may)

print_on : (P : Fault → Type 0) (names : List (List ℕ)) (found : List ℕ) (line : Line) → OnLine P line → Tells P (print_at names found line)
unfolding print_at
print_on P names found line may = on_test P _ _ _ (may Syntax tt) (on_test P _ _ _ (may NameTwice tt) (on_test P _ _ _ (may NameUnknown tt) (value_told _)))

-- ---- blocks of operations

next_operation_stays : (texts : Texts) (found : List Operation) (line : Line) (front : List Line) → IsShared texts line → All (IsShared texts) front
    → Stays pair texts (next_operation_at texts.end found line (front ++ texts.back)) (next_operation_at texts.other_end found line (front ++ texts.other_back))
unfolding next_operation_at
next_operation_stays texts found line front shared all =
    tests_stay (operation_head_at texts.end found line) (operation_head_at texts.other_end found line) _ _ (operation_head_same texts.end texts.other_end found line shared.1) (operation_head_on texts.P texts.end found line shared.0)
    (λ head. operation_reads texts (line ∷ front) (none_before texts) (All-cons (IsShared texts) line front shared all))

operations_reads : (blocks : ℕ) (found : List Operation) → Reads pair [] (λ end lines. operations_at blocks end found lines)
unfolding operations_at
operations_reads zero found texts front before all = taken found front (none_before texts) all
operations_reads (suc blocks) found texts front before all = reads_lines pair (λ (c : Unit {0}) end lines. operations_at (suc blocks) end found lines)
    (λ texts c. taken found [] (none_before (alone texts)) (none_before (alone texts)))
    (λ texts c line front shared all others. either_stays (begins_with (codes "operation") line.words) _ _ _ _
    (then_stays pair pair texts (λ end read. operations_at blocks end (found ++ read.0 ∷ []) read.1) (next_operation_stays texts found line front shared all) (λ op. operations_reads blocks (found ++ op ∷ [])))
    (taken found (line ∷ front) (none_before texts) (All-cons (IsShared texts) line front shared all))) tt texts front before all

-- ---- blocks of matrices

next_matrix_stays : (m : ℕ) (texts : Texts) (found : Matrices) (line : Line) (front : List Line) → IsShared texts line → All (IsShared texts) front
    → Stays pair texts (next_matrix_at texts.end m found line (front ++ texts.back)) (next_matrix_at texts.other_end m found line (front ++ texts.other_back))
unfolding next_matrix_at
next_matrix_stays m texts found line front shared all =
    tests_stay (matrix_head_at texts.end found line) (matrix_head_at texts.other_end found line) _ _ (matrix_head_same texts.end texts.other_end found line shared.1) (matrix_head_on texts.P texts.end found line shared.0)
    (λ head. matrix_reads m (entry_limit - entry_count found.grids) texts (line ∷ front) (none_before texts) (All-cons (IsShared texts) line front shared all))

matrices_reads : (blocks m : ℕ) (found : Matrices) → Reads pair [] (λ end lines. matrices_at blocks end m found lines)
unfolding matrices_at
matrices_reads zero m found texts front before all = taken found front (none_before texts) all
matrices_reads (suc blocks) m found texts front before all = reads_lines pair (λ (c : Unit {0}) end lines. matrices_at (suc blocks) end m found lines)
    (λ texts c. taken found [] (none_before (alone texts)) (none_before (alone texts)))
    (λ texts c line front shared all others. either_stays (begins_with (codes "matrix") line.words) _ _ _ _
    (then_stays pair pair texts (λ end read. matrices_at blocks end m (with_matrix found read.0) read.1) (next_matrix_stays m texts found line front shared all) (λ new. matrices_reads blocks m (with_matrix found new)))
    (taken found (line ∷ front) (none_before texts) (All-cons (IsShared texts) line front shared all))) tt texts front before all

-- ---- statements and prints

statements_reads : (operations : List Operation) (matrices : Matrices) (found : List Statement) → Reads pair [] (λ end lines. statements_at operations matrices found lines)
unfolding statements_at
statements_reads operations matrices = reads_lines pair (λ found end lines. statements_at operations matrices found lines)
    (λ texts found. taken found [] (none_before (alone texts)) (none_before (alone texts)))
    (λ texts found line front shared all others. either_stays (begins_with (codes "do") line.words) _ _ _ _
    (test_stays (statement_at operations matrices found line) _ _ (statement_on texts.P operations matrices found line shared.0) (λ s. others (found ++ s ∷ [])))
    (taken found (line ∷ front) (none_before texts) (All-cons (IsShared texts) line front shared all)))

prints_reads : (names : List (List ℕ)) (found : List ℕ) → Reads pair [] (λ end lines. prints_at names found lines)
unfolding prints_at
prints_reads names = reads_lines pair (λ found end lines. prints_at names found lines)
    (λ texts found. taken found [] (none_before (alone texts)) (none_before (alone texts)))
    (λ texts found line front shared all others. either_stays (begins_with (codes "print") line.words) _ _ _ _
    (test_stays (print_at names found line) _ _ (print_on texts.P names found line shared.0) (λ n. others (found ++ n ∷ [])))
    (taken found (line ∷ front) (none_before texts) (All-cons (IsShared texts) line front shared all)))

-- ---- nothing more

pub nothing_reads : Reads value_alone [] (λ end lines. nothing_at lines)
unfolding nothing_at
nothing_reads = reads_lines value_alone (λ (c : Unit {0}) end lines. nothing_at lines) (λ texts c. taken tt [] (none_before (alone texts)) (none_before (alone texts)))
    (λ texts c line front shared all others. refused (TrailingText on line.number) (shared.0 TrailingText tt)) tt

-- ---- the sections, from the last to the first

module _ (m : ℕ) where
  abbrev job_of : List Operation → Matrices → List Statement → List ℕ → Job
  job_of operations matrices statements prints = record { modulus = m; operations = operations; names = matrices.names; matrices = matrices.grids; statements = statements; prints = prints }

  abbrev behind_prints : List Operation → Matrices → List Statement → ℕ → List ℕ × List Line → Result Job Fault
  behind_prints operations matrices statements end prints = nothing_at prints.1 >>= λ done. Ok (job_of operations matrices statements prints.0)

  abbrev behind_statements : List Operation → Matrices → ℕ → List Statement × List Line → Result Job Fault
  behind_statements operations matrices end statements = prints_at matrices.names [] statements.1 >>= behind_prints operations matrices statements.0 end

  abbrev behind_matrices : List Operation → ℕ → Matrices × List Line → Result Job Fault
  behind_matrices operations end matrices = statements_at operations matrices.0 [] matrices.1 >>= behind_statements operations matrices.0 end

  abbrev no_matrices : Matrices
  no_matrices = record { names = []; grids = [] }

  abbrev behind_operations : ℕ → List Operation × List Line → Result Job Fault
  behind_operations end operations = matrices_at (suc matrix_limit) end m no_matrices operations.1 >>= behind_matrices operations.0 end

  prints_last : (operations : List Operation) (matrices : Matrices) (statements : List Statement) (prints : List ℕ) → Reads value_alone [] (λ end lines. behind_prints operations matrices statements end (prints, lines))
  prints_last operations matrices statements prints texts front before all =
      then_stays value_alone value_alone texts (λ end done. Ok (job_of operations matrices statements prints)) (nothing_reads texts front before all) (λ done texts front before all.
      taken (job_of operations matrices statements prints) front (none_before texts) all)

  statements_last : (operations : List Operation) (matrices : Matrices) (statements : List Statement) → Reads value_alone [] (λ end lines. behind_statements operations matrices end (statements, lines))
  statements_last operations matrices statements texts front before all =
      then_stays pair value_alone texts (behind_prints operations matrices statements) (prints_reads matrices.names [] texts front before all) (prints_last operations matrices statements)

  matrices_last : (operations : List Operation) (matrices : Matrices) → Reads value_alone [] (λ end lines. behind_matrices operations end (matrices, lines))
  matrices_last operations matrices texts front before all =
      then_stays pair value_alone texts (behind_statements operations matrices) (statements_reads operations matrices [] texts front before all) (statements_last operations matrices)

  operations_last : (operations : List Operation) → Reads value_alone [] (λ end lines. behind_operations end (operations, lines))
  operations_last operations texts front before all =
      then_stays pair value_alone texts (behind_matrices operations) (matrices_reads (suc matrix_limit) m no_matrices texts front before all) (matrices_last operations)

  sections_reads : Reads value_alone [] (λ end lines. sections_at end m lines)
  unfolding sections_at
  sections_reads texts front before all =
      then_stays pair value_alone texts behind_operations (operations_reads (suc operation_limit) [] texts front before all) operations_last

-- ---- the whole job

-- the header of what stands behind the shared lines
header_past : (texts : Texts) → texts.Past (Header on texts.end) → (lines : List Line) (other : Result (List Line) Fault) → All (OnLine texts.Past) lines → Stays lines_alone texts (header_at texts.end lines) other
unfolding header_at
header_past texts headless [] other all = refused_past (Header on texts.end) other (texts.weaker (Header on texts.end) headless) headless
header_past texts headless (line ∷ lines) other all = by_tests (not (is_header line.words)) (line.number == texts.end)
  where
    may : OnLine texts.Past line
    may = All-head (OnLine texts.Past) line lines all

    by_tests : (b c : Bool) → Stays lines_alone texts (if b then Err (Header on line.number) else if c then Err (Syntax on line.number) else Ok lines) other
    by_tests true c = refused_past (Header on line.number) other (texts.weaker (Header on line.number) (may Header tt)) (may Header tt)
    by_tests false true = refused_past (Syntax on line.number) other (texts.weaker (Syntax on line.number) (may Syntax tt)) (may Syntax tt)
    by_tests false false = taken_past tt lines other (All-nil (OnLine texts.Past)) (All-tail (OnLine texts.Past) line lines all)

header_stays : (texts : Texts) → texts.Past (Header on texts.end) → (front : List Line) → All (IsShared texts) front → Stays lines_alone texts (header_at texts.end (front ++ texts.back)) (header_at texts.other_end (front ++ texts.other_back))
unfolding header_at
header_stays texts headless [] all = header_past texts headless texts.back (header_at texts.other_end texts.other_back) texts.behind
header_stays texts headless (line ∷ front) all =
    let shared = All-head (IsShared texts) line front all in
    if_stays (not (is_header line.words)) (not (is_header line.words)) (Header on line.number) _ _ refl (shared.0 Header tt)
    (if_stays (line.number == texts.end) (line.number == texts.other_end) (Syntax on line.number) _ _ shared.1 (shared.0 Syntax tt)
    (taken tt front (none_before texts) (All-tail (IsShared texts) line front all)))

modulus_reads : Reads pair [] (λ end lines. due_line end lines >>= λ line. modulus_at line.0 >>= λ m. Ok (m, line.1))
modulus_reads texts front before all =
    then_stays line_shape pair texts (λ end line. modulus_at line.0 >>= λ m. Ok (m, line.1)) (due_reads texts front before all) (λ line texts front before all.
    test_stays (modulus_at line) _ _ (modulus_on texts.P line (on_before texts line before)) (λ m. taken m front (none_before texts) all))

first_lines_stay : (texts : Texts) → texts.Past (Header on texts.end) → (front : List Line) → All (IsShared texts) front → Stays pair texts (first_lines_at texts.end (front ++ texts.back)) (first_lines_at texts.other_end (front ++ texts.other_back))
unfolding first_lines_at
first_lines_stay texts headless front all =
    then_stays lines_alone pair texts (λ end behind. due_line end behind >>= λ line. modulus_at line.0 >>= λ m. Ok (m, line.1)) (header_stays texts headless front all) (λ x. modulus_reads)

pub job_stays : (texts : Texts) → texts.Past (Header on texts.end) → (front : List Line) → All (IsShared texts) front → Stays value_alone texts (job_at texts.end (front ++ texts.back)) (job_at texts.other_end (front ++ texts.other_back))
unfolding job_at
job_stays texts headless front all = then_stays pair value_alone texts (λ end first. sections_at end first.0 first.1) (first_lines_stay texts headless front all) sections_reads
