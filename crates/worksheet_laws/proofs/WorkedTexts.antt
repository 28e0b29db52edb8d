-- More worksheets as text, computed from the definitions: one along two dimensions, printed and read again, and lines that have
-- two faults.
use Rattle.std.proofs.Common.{◌≡◌, ℕ, ◌-◌, List, [], ◌∷◌, ◌++◌, take, drop, map, Result, Ok, Err, Option, Some, None, refl, codes}
use Rattle.std.specs.Fmt.{digits}
use Rattle.text_scan.specs.declared.Rest.{Rest}
use Rattle.text_scan.specs.Tokens.{front_of, tokens_from}
use Rattle.structure_rules.specs.declared.Structure.TheVariants.{General}
use Rattle.operation_spec.specs.declared.operation.Operation.{Operation}
use Rattle.operation_spec.specs.declared.split.Dir.TheVariants.{Backward, Forward}
use Rattle.operation_spec.specs.declared.task.Kind.TheVariants as kinds
use Rattle.operation_spec.specs.declared.task.Task.{Task}
use Rattle.operation_spec.proofs.WorkedOperations.{low, operand, upp_right}
use Rattle.task_graph.specs.Order.{task_of}
use Rattle.worksheet.specs.declared.sheet.Worksheet.{Worksheet}
use Rattle.worksheet.specs.Worksheets.{worksheet_of}
use Rattle.worksheet_text.specs.SheetFaults.{SheetFault, syntax, unknown}
use Rattle.worksheet_text.specs.SheetReading.{each_line, end_at, ends_at, ends_line_at, guard_at, invariant_at, last_at, loop_at, more_due, next_line_at, no_line_at, operation_at, round_at, sheet_at, split_at, state_at, update_at, worksheet_in}
use Rattle.worksheet_text.specs.SheetTexts.{worksheet_text}
use Rattle.worksheet_text.specs.SheetWords.{head_at, inner_part_at, next_at, nothing_left, part_at, task_at, tasks_from, word_at}

-- the whole text, from its first byte
abbrev from_front : Rest
from_front = record { at = 0; line = 1 }

-- ---- along two dimensions

-- X * T' = B - A * T with an upper T
abbrev named : Operation
named = record upp_right { work = operand (codes "B") General 0 1 }

abbrev term : ℕ → ℕ → ℕ → Task
term i j k = task_of kinds.Term 1 i j k

-- its tenth variant: the solution of the rows that were passed in the last columns, taken off the columns before them
abbrev sheet : Worksheet
sheet = worksheet_of named (record { first = 0; second = Some 1 }) (record { first = Forward; second = Backward })
    (term 0 1 0 ∷ term 0 1 1 ∷ task_of kinds.Solve 0 0 1 0 ∷ task_of kinds.Right 0 0 0 1 ∷ [])

abbrev text : List ℕ
text = codes "worksheet right\n# 1a X = B\n# 1b X * T' = B - A * T\nsplit n forward m backward\ninvariant term1(0,1,0) term1(0,1,1) solve(0,1) right(0,0,1)\nguard n m\nstart n first m last\ntake n first m last\nbefore 0 0 : right(0,0,2) # B[0,0] - X[0,2]*T'[2,0]\nbefore 0 1 : right(0,1,2) # B[0,1] - X[0,2]*T'[2,1]\nbefore 0 2 : term1(0,2,0) term1(0,2,1) term1(0,2,2) solve(0,2) # (B[0,2] - A[0,0]*T[0,2] - A[0,1]*T[1,2] - A[0,2]*T[2,2])*inv(T'[2,2])\nbefore 1 0 : # B[1,0]\nbefore 1 1 : # B[1,1]\nbefore 1 2 : # B[1,2]\nbefore 2 0 : # B[2,0]\nbefore 2 1 : # B[2,1]\nbefore 2 2 : # B[2,2]\nupdate term1(0,1,0)\nupdate term1(0,1,1)\nupdate solve(0,1)\nupdate right(0,0,1)\nupdate term1(1,2,0)\nupdate term1(1,2,1)\nupdate term1(1,2,2)\nupdate solve(1,2)\nupdate term1(1,1,0)\nupdate term1(1,1,1)\nupdate right(1,1,2)\nupdate solve(1,1)\nupdate right(1,0,1)\nupdate right(1,0,2)\ngive n first m last\nafter 0 0 : right(0,0,1) right(0,0,2) # B[0,0] - X[0,1]*T'[1,0] - X[0,2]*T'[2,0]\nafter 0 1 : term1(0,1,0) term1(0,1,1) right(0,1,2) solve(0,1) # (B[0,1] - A[0,0]*T[0,1] - A[0,1]*T[1,1] - X[0,2]*T'[2,1])*inv(T'[1,1])\nafter 0 2 : term1(0,2,0) term1(0,2,1) term1(0,2,2) solve(0,2) # (B[0,2] - A[0,0]*T[0,2] - A[0,1]*T[1,2] - A[0,2]*T[2,2])*inv(T'[2,2])\nafter 1 0 : right(1,0,1) right(1,0,2) # B[1,0] - X[1,1]*T'[1,0] - X[1,2]*T'[2,0]\nafter 1 1 : term1(1,1,0) term1(1,1,1) right(1,1,2) solve(1,1) # (B[1,1] - A[1,0]*T[0,1] - A[1,1]*T[1,1] - X[1,2]*T'[2,1])*inv(T'[1,1])\nafter 1 2 : term1(1,2,0) term1(1,2,1) term1(1,2,2) solve(1,2) # (B[1,2] - A[1,0]*T[0,2] - A[1,1]*T[1,2] - A[1,2]*T[2,2])*inv(T'[2,2])\nafter 2 0 : # B[2,0]\nafter 2 1 : # B[2,1]\nafter 2 2 : # B[2,2]\nend\n"

printed : worksheet_text named sheet ≡ text
unfolding digits upp_right
printed = refl

read : worksheet_in text from_front (low ∷ named ∷ []) ≡ Ok sheet
unfolding low upp_right tokens_from front_of next_at word_at part_at head_at inner_part_at task_at tasks_from nothing_left next_line_at more_due operation_at guard_at split_at ends_at invariant_at state_at update_at each_line ends_line_at loop_at round_at no_line_at end_at last_at sheet_at
read = refl

-- ---- lines with two faults

-- the fault of a text, where it has one
fault_in : List ℕ → Option SheetFault
fault_in bytes = of (worksheet_in bytes from_front (low ∷ []))
  where
    of : Result Worksheet SheetFault → Option SheetFault
    of (Ok w) = None
    of (Err fault) = Some fault

-- lines without a fault
abbrev base : List (List ℕ)
base = codes "worksheet low" ∷ codes "split n forward" ∷ codes "invariant solve(0,0)" ∷ codes "guard n" ∷ codes "start n first" ∷ codes "take n first" ∷ codes "before 0 0 : solve(0,0)"
    ∷ codes "update solve(1,0)" ∷ codes "give n first" ∷ codes "after 0 0 :" ∷ codes "end" ∷ []

-- each line and its line feed
abbrev text_of : List (List ℕ) → List ℕ
text_of [] = []
text_of (line ∷ lines) = line ++ codes "\n" ++ text_of lines

-- the number of a line, another one in its place, and the fault that the text then has
abbrev Row : Type 0
Row = ℕ × List ℕ × Option SheetFault

-- a name that isn't declared is told before the order of a split; what isn't a line of its kind before both, wherever it
-- stands on the line
abbrev changed_lines : List Row
changed_lines = (2, codes "split n forward", None)
    ∷ (2, codes "split k forward n forward", Some (unknown 2))
    ∷ (2, codes "split k forward k forward", Some (unknown 2))
    ∷ (2, codes "split m forward n up", Some (syntax 2))
    ∷ (4, codes "guard k k k", Some (syntax 4))
    ∷ (9, codes "give k up", Some (syntax 9))
    ∷ (9, codes "give k last n", Some (syntax 9))
    ∷ []

changed_line_faults : map (λ (row : Row). fault_in (text_of (take (row.0 - 1) base ++ row.1 ∷ drop row.0 base))) changed_lines ≡ map (λ (row : Row). row.2) changed_lines
unfolding low fault_in tokens_from front_of next_at word_at part_at head_at inner_part_at task_at tasks_from nothing_left next_line_at more_due operation_at guard_at split_at ends_at invariant_at state_at update_at each_line ends_line_at loop_at round_at no_line_at end_at last_at sheet_at
changed_line_faults = refl
