-- Worksheets as text, computed from the definitions: one printed and read again, and the faults of changed lines.
use Rattle.std.proofs.Common.{◌≡◌, ℕ, ◌-◌, List, [], ◌∷◌, ◌++◌, take, drop, map, Result, Ok, Err, Option, Some, None, refl, codes}
use Rattle.std.specs.Fmt.{digits}
use Rattle.text_scan.specs.declared.Rest.{Rest}
use Rattle.text_scan.specs.Tokens.{front_of, tokens_from}
use Rattle.operation_spec.specs.declared.task.Kind.TheVariants as kinds
use Rattle.operation_spec.specs.declared.task.Task.{Task}
use Rattle.operation_spec.specs.declared.split.Split.{Split}
use Rattle.operation_spec.specs.declared.split.Dirs.{Dirs}
use Rattle.operation_spec.specs.declared.split.Dir.TheVariants.{Forward}
use Rattle.operation_spec.proofs.WorkedOperations.{lu, low}
use Rattle.task_graph.specs.Order.{task_of}
use Rattle.worksheet.specs.declared.sheet.Worksheet.{Worksheet}
use Rattle.worksheet.specs.Worksheets.{worksheet_of}
use Rattle.worksheet_text.specs.SheetFaults.{SheetFault, SplitOrder, syntax, unknown}
use Rattle.worksheet_text.specs.SheetReading.{each_line, end_at, ends_at, ends_line_at, guard_at, invariant_at, last_at, loop_at, more_due, next_line_at, no_line_at, operation_at, round_at, sheet_at, split_at, state_at, update_at, worksheet_in}
use Rattle.worksheet_text.specs.SheetTexts.{worksheet_text}
use Rattle.worksheet_text.specs.SheetWords.{head_at, inner_part_at, next_at, nothing_left, part_at, task_at, tasks_from, word_at}

-- ---- the last variant of LU, printed and read

abbrev solve : ℕ → ℕ → Task
solve i j = task_of kinds.Solve 0 i j 0

abbrev lu_sheet : Worksheet
lu_sheet = worksheet_of lu (record { first = 0; second = None }) (record { first = Forward; second = Forward }) (solve 0 0 ∷ solve 0 1 ∷ solve 1 0 ∷ task_of kinds.Left 0 1 1 0 ∷ [])

abbrev lu_text : List ℕ
lu_text = codes "worksheet lu\n# 1a X = W\n# 1b lu X = W\nsplit n forward\ninvariant solve(0,0) solve(0,1) solve(1,0) left(1,1,0)\nguard n\nstart n first\ntake n first\nbefore 0 0 : solve(0,0) # lu(W[0,0])\nbefore 0 1 : solve(0,1) # inv(X.l[0,0])*(W[0,1])\nbefore 0 2 : solve(0,2) # inv(X.l[0,0])*(W[0,2])\nbefore 1 0 : solve(1,0) # (W[1,0])*inv(X.u[0,0])\nbefore 1 1 : left(1,1,0) # W[1,1] - X.l[1,0]*X.u[0,1]\nbefore 1 2 : left(1,2,0) # W[1,2] - X.l[1,0]*X.u[0,2]\nbefore 2 0 : solve(2,0) # (W[2,0])*inv(X.u[0,0])\nbefore 2 1 : left(2,1,0) # W[2,1] - X.l[2,0]*X.u[0,1]\nbefore 2 2 : left(2,2,0) # W[2,2] - X.l[2,0]*X.u[0,2]\nupdate solve(1,1)\nupdate solve(1,2)\nupdate solve(2,1)\nupdate left(2,2,1)\ngive n first\nafter 0 0 : solve(0,0) # lu(W[0,0])\nafter 0 1 : solve(0,1) # inv(X.l[0,0])*(W[0,1])\nafter 0 2 : solve(0,2) # inv(X.l[0,0])*(W[0,2])\nafter 1 0 : solve(1,0) # (W[1,0])*inv(X.u[0,0])\nafter 1 1 : left(1,1,0) solve(1,1) # lu(W[1,1] - X.l[1,0]*X.u[0,1])\nafter 1 2 : left(1,2,0) solve(1,2) # inv(X.l[1,1])*(W[1,2] - X.l[1,0]*X.u[0,2])\nafter 2 0 : solve(2,0) # (W[2,0])*inv(X.u[0,0])\nafter 2 1 : left(2,1,0) solve(2,1) # (W[2,1] - X.l[2,0]*X.u[0,1])*inv(X.u[1,1])\nafter 2 2 : left(2,2,0) left(2,2,1) # W[2,2] - X.l[2,0]*X.u[0,2] - X.l[2,1]*X.u[1,2]\nend\n"

lu_printed : worksheet_text lu lu_sheet ≡ lu_text
unfolding digits lu
lu_printed = refl

-- the whole text, from its first byte
abbrev from_front : Rest
from_front = record { at = 0; line = 1 }

lu_read : worksheet_in lu_text from_front (low ∷ lu ∷ []) ≡ Ok lu_sheet
unfolding lu low tokens_from front_of next_at word_at part_at head_at inner_part_at task_at tasks_from nothing_left next_line_at more_due operation_at guard_at split_at ends_at invariant_at state_at update_at each_line ends_line_at loop_at round_at no_line_at end_at last_at sheet_at
lu_read = refl

-- ---- faults

-- the fault of a text, where it has one
fault_in : List ℕ → Option SheetFault
fault_in text = of (worksheet_in text from_front (low ∷ []))
  where
    of : Result Worksheet SheetFault → Option SheetFault
    of (Ok w) = None
    of (Err fault) = Some fault

-- lines without a fault
abbrev base : List (List ℕ)
base = codes "worksheet low" ∷ codes "split n forward" ∷ codes "invariant solve(0,0)" ∷ codes "guard n" ∷ codes "start n first" ∷ codes "take n first" ∷ codes "before 0 0 : solve(0,0)" ∷ codes "update solve(1,0)"
    ∷ codes "give n first" ∷ codes "after 0 0 :" ∷ codes "end" ∷ []

-- each line and its line feed, and what stands behind them
abbrev text_of : List (List ℕ) → List ℕ → List ℕ
text_of [] last = last
text_of (line ∷ lines) last = line ++ codes "\n" ++ text_of lines last

-- what is changed of the lines, and the fault that the text then has
abbrev Row : Type 0
Row = ℕ × List ℕ × Option SheetFault

-- a line by its number, and another one in its place
abbrev changed_lines : List Row
changed_lines = (1, codes "worksheet lu", Some (unknown 1))
    ∷ (1, codes "worksheet low low", Some (syntax 1))
    ∷ (2, codes "split n forward m backward # both", None)
    ∷ (2, codes "split m forward n forward\ninvariant n", Some (SplitOrder 2))
    ∷ (2, codes "split n forward n forward", Some (SplitOrder 2))
    ∷ (2, codes "split m forward k forward", Some (unknown 2))
    ∷ (2, codes "split n last", Some (syntax 2))
    ∷ (3, codes "invariant", None)
    ∷ (3, codes "invariant solve(0,3)", Some (syntax 3))
    ∷ (3, codes "invariant solve(0,0,0)", Some (syntax 3))
    ∷ (3, codes "invariant term2(0,1,2) left(0,0", Some (syntax 3))
    ∷ (4, codes "guard n m n", Some (syntax 4))
    ∷ (4, codes "guard k", Some (unknown 4))
    ∷ (5, codes "start n forward", Some (syntax 5))
    ∷ (6, codes "give n first", Some (syntax 6))
    ∷ (7, codes "before 0 0 solve(0,0)", Some (syntax 7))
    ∷ (7, codes "before 0 01 :", Some (syntax 7))
    ∷ (8, codes "update solve(1,0) solve(1,1)", Some (syntax 8))
    ∷ (8, codes "after 0 0 :", Some (syntax 8))
    ∷ (9, codes "give k last", Some (unknown 9))
    ∷ (10, codes "update solve(1,0)", Some (syntax 10))
    ∷ (11, codes "end 3", Some (syntax 11))
    ∷ (11, codes "end\n\nend", Some (syntax 13))
    ∷ []

-- how many lines stay, and what stands behind them
abbrev cut_texts : List Row
cut_texts = (0, codes "", Some (syntax 1))
    ∷ (4, codes "start k first", Some (syntax 5))
    ∷ (4, codes "start k first\n", Some (unknown 5))
    ∷ (9, codes "after 0 0 :", Some (syntax 10))
    ∷ (10, codes "", Some (syntax 11))
    ∷ (10, codes "end", None)
    ∷ []

abbrev faults_due : List Row → List (Option SheetFault)
faults_due rows = map (λ row. row.2) rows

changed_line_faults : map (λ (row : Row). fault_in (text_of (take (row.0 - 1) base ++ row.1 ∷ drop row.0 base) [])) changed_lines ≡ faults_due changed_lines
unfolding low fault_in tokens_from front_of next_at word_at part_at head_at inner_part_at task_at tasks_from nothing_left next_line_at more_due operation_at guard_at split_at ends_at invariant_at state_at update_at each_line ends_line_at loop_at round_at no_line_at end_at last_at sheet_at
changed_line_faults = refl

cut_text_faults : map (λ (row : Row). fault_in (text_of (take row.0 base) row.1)) cut_texts ≡ faults_due cut_texts
unfolding low fault_in tokens_from front_of next_at word_at part_at head_at inner_part_at task_at tasks_from nothing_left next_line_at more_due operation_at guard_at split_at ends_at invariant_at state_at update_at each_line ends_line_at loop_at round_at no_line_at end_at last_at sheet_at
cut_text_faults = refl
