-- The readers of the lines of an operation, on two texts that begin with the same lines.
use Rattle.std.proofs.Common.{◌≡◌, ℕ, ◌==◌, List, [], ◌∷◌, ◌++◌, Option, Some, None, codes, map, Result, Ok, refl}
use Rattle.byte_texts.specs.Reading.{◌>>=◌}
use Rattle.text_scan.specs.FaultKinds.{Form, Limit, NameTwice, NameUnknown, Shape, Syntax, TooManyTerms}
use Rattle.text_scan.specs.Faults.{Fault, ◌on◌}
use Rattle.text_scan.specs.Lines.{Line, begins_with, due_line, inner_line}
use Rattle.operation_spec.specs.declared.equation.Equation.{Equation}
use Rattle.operation_spec.specs.declared.operation.Operand.{Operand}
use Rattle.operation_spec.specs.declared.operation.Operation.{Operation}
use Rattle.operation_spec.specs.OperationFaults.{Declared, Knowns, declared_at, dims_at, end_at, equation_at, equation_in, form_of, known_at, knowns_at, name_at, names_of, operation_at, sides_at, term_of, work_at}
use Rattle.fault_laws.proofs.Readers as readers
use Rattle.fault_laws.proofs.Readers.{IsShared, OnLine, Reads, Stays, Tells, Texts, alone, due_reads, either_stays, fault_told, if_stays, inner_reads, line_shape, none_before, on_before, on_test, one_before, pair, reads_lines, refused, taken, test_stays, then_stays, value_told}

-- ---- one line

name_on : (P : Fault → Type 0) (line : Line) → OnLine P line → Tells P (name_at line)
unfolding name_at
name_on P line may = on_test P _ _ _ (may Syntax tt) (value_told _)

dims_on : (P : Fault → Type 0) (line : Line) → OnLine P line → Tells P (dims_at line)
unfolding dims_at
dims_on P line may = on_test P _ _ _ (may Syntax tt) (on_test P _ _ _ (may Limit tt) (on_test P _ _ _ (may NameTwice tt) (value_told _)))

work_on : (P : Fault → Type 0) (dims : List (List ℕ)) (line : Line) → OnLine P line → Tells P (work_at dims line)
unfolding work_at
work_on P dims line may =
    on_test P _ _ _ (may Syntax tt) (on_test P _ _ _ (may NameTwice tt) (on_test P _ _ _ (may NameUnknown tt) (on_test P _ _ _ (may Shape tt) (on_test P _ _ _ (may Form tt) (value_told _)))))

known_on : (P : Fault → Type 0) (dims : List (List ℕ)) (work : Operand) (found : List Operand) (line : Line) → OnLine P line → Tells P (known_at dims work found line)
unfolding known_at
known_on P dims work found line may =
    on_test P _ _ _ (may Syntax tt) (on_test P _ _ _ (may Limit tt) (on_test P _ _ _ (may NameTwice tt) (on_test P _ _ _ (may NameUnknown tt) (on_test P _ _ _ (may Shape tt) (value_told _)))))

sides_on : (P : Fault → Type 0) (dims : List (List ℕ)) (work : Operand) (knowns : List Operand) (line : Line) (e : Equation) → OnLine P line → Tells P (sides_at dims work knowns line.number e)
unfolding sides_at
sides_on P dims work knowns line e may = on_test P _ _ _ (may NameUnknown tt) (on_test P _ _ _ (may TooManyTerms tt) (on_test P _ _ _ (may Shape tt) (on_test P _ _ _ (may Form tt) (value_told _))))

equation_on : (P : Fault → Type 0) (dims : List (List ℕ)) (work : Operand) (knowns : List Operand) (line : Line) → OnLine P line → Tells P (equation_at dims work knowns line)
unfolding equation_at
equation_on P dims work knowns line may = by_words (equation_in (names_of work knowns) line.words) refl
  where
    by_words : (said : Option Equation) → equation_in (names_of work knowns) line.words ≡ said → Tells P (equation_at dims work knowns line)
    by_words None is = rw is (fault_told (Syntax on line.number) (may Syntax tt))
    by_words (Some e) is = rw is (sides_on P dims work knowns line e may)

end_on : (P : Fault → Type 0) (line : Line) → OnLine P line → Tells P (end_at line)
unfolding end_at
end_on P line may = on_test P _ _ _ (may Syntax tt) (value_told _)

-- ---- the lines of known operands, and the one behind them

abbrev knowns_shape : readers.Shape (List Operand × Line) Knowns
knowns_shape = record { answer = λ x lines. record { operands = x.0; line = x.1; rest = lines }; held = λ x. x.1 ∷ [] }

knowns_reads : (dims : List (List ℕ)) (work : Operand) (found : List Operand) → Reads knowns_shape [] (λ end lines. knowns_at end dims work found lines)
unfolding knowns_at
knowns_reads dims work = reads_lines knowns_shape (λ found end lines. knowns_at end dims work found lines) (λ texts found. refused (Syntax on texts.end) texts.early)
    (λ texts found line front shared all others.
    if_stays (line.number == texts.end) (line.number == texts.other_end) (Syntax on line.number) _ _ shared.1 (shared.0 Syntax tt)
    (either_stays (begins_with (codes "known") line.words) _ _ _ _
    (test_stays (known_at dims work found line) _ _ (known_on texts.P dims work found line shared.0) (λ o. others (found ++ o ∷ [])))
    (taken (found, line) front (one_before texts line shared) all)))

-- ---- what the lines declare

abbrev declared_shape : readers.Shape (List (List ℕ) × Operand × List Operand × Line) Declared
declared_shape = record { answer = λ x lines. record { dims = x.0; work = x.1; knowns = record { operands = x.2; line = x.3; rest = lines } }; held = λ x. x.3 ∷ [] }

abbrev all_declared : List (List ℕ) → Operand → Knowns → Declared
all_declared dims work knowns = record { dims = dims; work = work; knowns = knowns }

-- behind the line of dimensions
operands_reads : (dims : List (List ℕ)) → Reads declared_shape [] (λ end lines. inner_line end lines >>= λ third. work_at dims third.0 >>= λ work. knowns_at end dims work [] third.1 >>= λ knowns. Ok (all_declared dims work knowns))
operands_reads dims texts front before all =
    then_stays line_shape declared_shape texts (λ end third. work_at dims third.0 >>= λ work. knowns_at end dims work [] third.1 >>= λ knowns. Ok (all_declared dims work knowns)) (inner_reads texts front before all) (λ third texts front before all.
    test_stays (work_at dims third) _ _ (work_on texts.P dims third (on_before texts third before)) (λ work.
    then_stays knowns_shape declared_shape texts (λ end knowns. Ok (all_declared dims work knowns)) (knowns_reads dims work [] texts front (none_before texts) all) (λ x texts front before all.
    taken (dims, work, x.0, x.1) front before all)))

declared_reads : Reads declared_shape [] declared_at
unfolding declared_at
declared_reads texts front before all =
    then_stays line_shape declared_shape texts (λ end second. dims_at second.0 >>= λ dims. inner_line end second.1 >>= λ third. work_at dims third.0 >>= λ work. knowns_at end dims work [] third.1 >>= λ knowns. Ok (all_declared dims work knowns))
    (inner_reads texts front before all) (λ second texts front before all.
    test_stays (dims_at second) _ _ (dims_on texts.P second (on_before texts second before)) (λ dims. operands_reads dims texts front (none_before texts) all))

-- ---- the whole block

abbrev said : List ℕ → List (List ℕ) → Operand → List Operand → Equation → Operation
said name dims work knowns e = record { name = name; dims = dims; work = work; knowns = knowns; form = form_of e.left; terms = map term_of e.products }

-- behind the line of the equation
end_reads : (op : Operation) → Reads pair [] (λ end lines. due_line end lines >>= λ last. end_at last.0 >>= λ done. Ok (op, last.1))
end_reads op texts front before all =
    then_stays line_shape pair texts (λ end last. end_at last.0 >>= λ done. Ok (op, last.1)) (due_reads texts front before all) (λ last texts front before all.
    test_stays (end_at last) _ _ (end_on texts.P last (on_before texts last before)) (λ done. taken op front (none_before texts) all))

abbrev behind_declared : List ℕ → ℕ → Declared → Result (Operation × List Line) Fault
behind_declared name end declared =
    equation_at declared.dims declared.work declared.knowns.operands declared.knowns.line >>= λ e. due_line end declared.knowns.rest >>= λ last. end_at last.0 >>= λ done. Ok (said name declared.dims declared.work declared.knowns.operands e, last.1)

named_reads : (name : List ℕ) → Reads pair [] (λ end lines. declared_at end lines >>= behind_declared name end)
named_reads name texts front before all =
    then_stays declared_shape pair texts (behind_declared name) (declared_reads texts front before all) (λ x texts front before all.
    test_stays (equation_at x.0 x.1 x.2 x.3) _ _ (equation_on texts.P x.0 x.1 x.2 x.3 (on_before texts x.3 before)) (λ e. end_reads (said name x.0 x.1 x.2 e) texts front (none_before texts) all))

pub operation_reads : Reads pair [] operation_at
unfolding operation_at
operation_reads texts front before all =
    then_stays line_shape pair texts (λ end first. name_at first.0 >>= λ name. declared_at end first.1 >>= behind_declared name end) (inner_reads texts front before all) (λ first texts front before all.
    test_stays (name_at first) _ _ (name_on texts.P first (on_before texts first before)) (λ name. named_reads name texts front (none_before texts) all))
