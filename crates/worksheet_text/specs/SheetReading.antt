-- The faults of the lines of a worksheet: for each line the tests in their order. Where no line has a fault, the lines say
-- a worksheet.
use Rattle.std.specs.Prelude.{ℕ, ◌+◌, List, [], ◌∷◌, ◌++◌, length, drop, codes, Option, Some, None, Result, Ok, Err, Bool, ◌&&◌, ◌||◌, not, nat_lt, nat_le, ◌==◌, if◌then◌else◌}
use Rattle.std.specs.Str.{bytes_eq}
use Rattle.byte_texts.specs.Reading.{◌>>=◌, some_or}
use Rattle.text_scan.specs.declared.Rest.{Rest}
use Rattle.text_scan.specs.declared.token.Token.{Token}
use Rattle.text_scan.specs.Faults.{first_fault}
use Rattle.text_scan.specs.Lines.{Line, begins_with, due_line, end_line_of, inner_line, is_end, lines_of, nth_word}
use Rattle.text_scan.specs.Names.{is_among, number_of}
use Rattle.text_scan.specs.Tokens.{BadByte, scanned, tokens_of}
use Rattle.text_scan.specs.Words.{is_name}
use Rattle.operation_spec.specs.declared.operation.Operation.{Operation}
use Rattle.operation_spec.specs.declared.split.Split.{Split}
use Rattle.operation_spec.specs.declared.split.Dirs.{Dirs}
use Rattle.operation_spec.specs.declared.split.Dir.{Dir}
use Rattle.operation_spec.specs.declared.split.Dir.TheVariants.{Forward, Backward}
use Rattle.operation_spec.specs.declared.task.Task.{Task}
use Rattle.worksheet.specs.declared.sheet.End.{End}
use Rattle.worksheet.specs.declared.sheet.State.{State}
use Rattle.worksheet.specs.declared.sheet.Worksheet.{Worksheet}
use Rattle.worksheet_text.specs.declared.loop_lines.LoopLines.{LoopLines}
use Rattle.worksheet_text.specs.declared.loop_lines.SplitLine.{SplitLine}
use Rattle.worksheet_text.specs.declared.round_lines.RoundLines.{RoundLines}
use Rattle.worksheet_text.specs.SheetFaults.{SheetFault, SplitOrder, as_text, syntax, unknown}
use Rattle.worksheet_text.specs.SheetWords.{Words, nothing_left, part_at, task_at, tasks_at, word_at}

-- ---- going from line to line

-- the line that is due where another is due behind it, and those behind it
unfoldable pub next_line_at : ℕ → List Line → Result (Line × List Line) SheetFault
next_line_at end lines = as_text (inner_line end lines)

-- another line is due behind this one
unfoldable pub more_due : ℕ → Line → Result (Unit {0}) SheetFault
more_due end line = if line.number == end then Err (syntax line.number) else Ok tt

-- ---- `worksheet OP`

-- the first operation with this name
abbrev pub operation_named : List Operation → List ℕ → Option Operation
operation_named [] name = None
operation_named (op ∷ operations) name = if bytes_eq op.name name then Some op else operation_named operations name

abbrev pub is_sheet_line : Words → Bool
is_sheet_line words = begins_with (codes "worksheet") words && length words == 2 && is_name (nth_word words 1)

unfoldable pub operation_at : List Operation → Line → Result Operation SheetFault
operation_at operations line =
    if is_sheet_line line.words then some_or (unknown line.number) (operation_named operations (nth_word line.words 1)) else Err (syntax line.number)

-- ---- lines of one dimension or two, the second of which stands at a place

abbrev pub has_unknown : List (List ℕ) → ℕ → Words → Bool
has_unknown dims second words = not (is_among dims (nth_word words 1)) || (nat_lt second (length words) && not (is_among dims (nth_word words second)))

-- `guard D` or `guard D D`
abbrev pub is_guard_line : Words → Bool
is_guard_line words = begins_with (codes "guard") words && is_name (nth_word words 1) && (length words == 2 || (length words == 3 && is_name (nth_word words 2)))

abbrev pub guard_of : List (List ℕ) → Words → List ℕ
guard_of dims words = number_of dims (nth_word words 1) ∷ (if nat_lt 2 (length words) then number_of dims (nth_word words 2) ∷ [] else [])

unfoldable pub guard_at : List (List ℕ) → Line → Result (List ℕ) SheetFault
guard_at dims line = first_fault (
    record { holds = not (is_guard_line line.words); fault = syntax line.number }
    ∷ record { holds = has_unknown dims 2 line.words; fault = unknown line.number }
    ∷ []) (guard_of dims line.words)

-- at a place a dimension, and behind it one of two words
abbrev pub is_pair : List ℕ → List ℕ → ℕ → Words → Bool
is_pair one other at words = is_name (nth_word words at) && (bytes_eq (nth_word words (at + 1)) one || bytes_eq (nth_word words (at + 1)) other)

-- a word, and one such pair or two
abbrev pub is_paired_line : List ℕ → List ℕ → List ℕ → Words → Bool
is_paired_line word one other words = begins_with word words && is_pair one other 1 words && (length words == 3 || (length words == 5 && is_pair one other 3 words))

-- `split D DIR` or `split D DIR D DIR`
abbrev pub dir_of_word : List ℕ → Dir
dir_of_word w = if bytes_eq w (codes "backward") then Backward else Forward

abbrev pub split_of : List (List ℕ) → Words → SplitLine
split_of dims words = record {
  split = record { first = number_of dims (nth_word words 1); second = if nat_lt 3 (length words) then Some (number_of dims (nth_word words 3)) else None };
  dirs = record { first = dir_of_word (nth_word words 2); second = if nat_lt 3 (length words) then dir_of_word (nth_word words 4) else Forward };
}

abbrev pub is_misordered : List (List ℕ) → Words → Bool
is_misordered dims words = nat_lt 3 (length words) && nat_le (number_of dims (nth_word words 3)) (number_of dims (nth_word words 1))

unfoldable pub split_at : List (List ℕ) → Line → Result SplitLine SheetFault
split_at dims line = first_fault (
    record { holds = not (is_paired_line (codes "split") (codes "forward") (codes "backward") line.words); fault = syntax line.number }
    ∷ record { holds = has_unknown dims 3 line.words; fault = unknown line.number }
    ∷ record { holds = is_misordered dims line.words; fault = SplitOrder line.number }
    ∷ []) (split_of dims line.words)

-- `start D END` or `start D END D END`, and the same with `take` and `give`
abbrev pub end_of_words : List (List ℕ) → ℕ → Words → End
end_of_words dims at words = record { dim = number_of dims (nth_word words at); last = bytes_eq (nth_word words (at + 1)) (codes "last") }

abbrev pub ends_of : List (List ℕ) → Words → List End
ends_of dims words = end_of_words dims 1 words ∷ (if nat_lt 3 (length words) then end_of_words dims 3 words ∷ [] else [])

unfoldable pub ends_at : List (List ℕ) → List ℕ → Line → Result (List End) SheetFault
ends_at dims word line = first_fault (
    record { holds = not (is_paired_line word (codes "first") (codes "last") line.words); fault = syntax line.number }
    ∷ record { holds = has_unknown dims 3 line.words; fault = unknown line.number }
    ∷ []) (ends_of dims line.words)

-- ---- lines of tasks

-- `invariant TASKS`
unfoldable pub invariant_at : Line → Result (List Task) SheetFault
invariant_at line = word_at line.number (codes "invariant") line.words >>= λ words. tasks_at line.number words

-- the block and its tasks behind the first word of `before I J : TASKS`, and of the same with `after`
unfoldable pub state_at : ℕ → Line → Result State SheetFault
state_at end line = do
  inside ← more_due end line
  row ← part_at line.number (drop 1 line.words)
  col ← part_at line.number row.1
  colon ← word_at line.number (codes ":") col.1
  done ← tasks_at line.number colon
  Ok (record { row = row.0; col = col.0; done = done })

-- the task behind the first word of `update TASK`
unfoldable pub update_at : ℕ → Line → Result Task SheetFault
update_at end line = do
  inside ← more_due end line
  read ← task_at line.number (drop 1 line.words)
  nothing ← nothing_left line.number read.1
  Ok read.0

-- ---- all lines

-- what the lines say that begin with a word, behind what was found, and the lines behind them
unfoldable pub each_line : {X : Type 0} → List ℕ → (Line → Result X SheetFault) → List X → List Line → Result (List X × List Line) SheetFault
each_line word read found [] = Ok (found, [])
each_line word read found (line ∷ lines) =
    if begins_with word line.words then (read line >>= λ x. each_line word read (found ++ x ∷ []) lines) else Ok (found, line ∷ lines)

abbrev pub states_at : ℕ → List ℕ → List Line → Result (List State × List Line) SheetFault
states_at end word lines = each_line word (state_at end) [] lines

abbrev pub updates_at : ℕ → List Line → Result (List Task × List Line) SheetFault
updates_at end lines = each_line (codes "update") (update_at end) [] lines

-- a line of ends that is due
unfoldable pub ends_line_at : ℕ → List (List ℕ) → List ℕ → List Line → Result (List End × List Line) SheetFault
ends_line_at end dims word lines = do
  line ← next_line_at end lines
  ends ← ends_at dims word line.0
  Ok (ends, line.1)

-- `split` to `take`
unfoldable pub loop_at : ℕ → List (List ℕ) → List Line → Result (LoopLines × List Line) SheetFault
loop_at end dims lines = do
  second ← next_line_at end lines
  along ← split_at dims second.0
  third ← next_line_at end second.1
  kept ← invariant_at third.0
  fourth ← next_line_at end third.1
  guard ← guard_at dims fourth.0
  start ← ends_line_at end dims (codes "start") fourth.1
  take ← ends_line_at end dims (codes "take") start.1
  Ok (record { along = along; invariant = kept; guard = guard; start = start.0; take = take.0 }, take.1)

-- the states before, the updates, `give`, and the states after
unfoldable pub round_at : ℕ → List (List ℕ) → List Line → Result (RoundLines × List Line) SheetFault
round_at end dims lines = do
  before ← states_at end (codes "before") lines
  updates ← updates_at end before.1
  give ← ends_line_at end dims (codes "give") updates.1
  after ← states_at end (codes "after") give.1
  Ok (record { before = before.0; updates = updates.0; give = give.0; after = after.0 }, after.1)

-- no line stands there
unfoldable pub no_line_at : List Line → Result (Unit {0}) SheetFault
no_line_at [] = Ok tt
no_line_at (line ∷ lines) = Err (syntax line.number)

-- `end`
unfoldable pub end_at : Line → Result (Unit {0}) SheetFault
end_at line = if is_end line.words then Ok tt else Err (syntax line.number)

-- and no line behind it
unfoldable pub last_at : ℕ → List Line → Result (Unit {0}) SheetFault
last_at end lines = do
  line ← as_text (due_line end lines)
  last ← end_at line.0
  no_line_at line.1

-- the worksheet that lines say, of one of these operations; the text ends on a line
unfoldable pub sheet_at : ℕ → List Operation → List Line → Result Worksheet SheetFault
sheet_at end operations lines = do
  first ← next_line_at end lines
  op ← operation_at operations first.0
  loop ← loop_at end op.dims first.1
  round ← round_at end op.dims loop.1
  last ← last_at end round.1
  Ok (record {
    operation = op.name;
    split = loop.0.along.split;
    dirs = loop.0.along.dirs;
    invariant = loop.0.invariant;
    guard = loop.0.guard;
    start = loop.0.start;
    take = loop.0.take;
    before = round.0.before;
    updates = round.0.updates;
    give = round.0.give;
    after = round.0.after;
  })

-- ---- bytes

-- the worksheet that the tokens of bytes say, the first of which is on a line, or their first fault
abbrev pub sheet_of : ℕ → List ℕ → List Operation → Result (List Token) BadByte → Result Worksheet SheetFault
sheet_of first_line bytes operations read = as_text (scanned read) >>= λ tokens. sheet_at (end_line_of first_line bytes) operations (lines_of bytes tokens)

-- the worksheet that the bytes from there on say; their first line has the number of rest
abbrev pub worksheet_in : List ℕ → Rest → List Operation → Result Worksheet SheetFault
worksheet_in bytes rest operations = sheet_of rest.line (drop rest.at bytes) operations (tokens_of rest.line (drop rest.at bytes))
