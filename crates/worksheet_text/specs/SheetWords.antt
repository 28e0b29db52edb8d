-- Tasks and the numbers of parts, word by word: what is due stands first among the words of a line, and is taken off.
use Rattle.std.specs.Prelude.{ℕ, zero, suc, List, [], ◌∷◌, ◌++◌, length, codes, Option, Some, None, Result, Ok, Err, if◌then◌else◌}
use Rattle.std.specs.Str.{bytes_eq}
use Rattle.byte_texts.specs.Reading.{◌>>=◌, some_or}
use Rattle.operation_spec.specs.declared.task.Kind.TheVariants as kinds
use Rattle.operation_spec.specs.declared.task.Kind.{Kind}
use Rattle.operation_spec.specs.declared.task.Task.{Task}
use Rattle.worksheet_text.specs.declared.words.TaskHead.{TaskHead}
use Rattle.worksheet_text.specs.SheetFaults.{SheetFault, syntax}

-- the words of a line
abbrev pub Words : Type 0
Words = List (List ℕ)

-- ---- single words

-- the number of one of three parts
abbrev pub part_of : List ℕ → Option ℕ
part_of w =
    if bytes_eq w (codes "0") then Some 0
    else if bytes_eq w (codes "1") then Some 1
    else if bytes_eq w (codes "2") then Some 2
    else None

-- the kind of a task, and the number of its term
abbrev pub head_of : List ℕ → Option TaskHead
head_of w =
    if bytes_eq w (codes "term1") then Some (record { kind = kinds.Term; term = 1 })
    else if bytes_eq w (codes "term2") then Some (record { kind = kinds.Term; term = 2 })
    else if bytes_eq w (codes "left") then Some (record { kind = kinds.Left; term = 0 })
    else if bytes_eq w (codes "right") then Some (record { kind = kinds.Right; term = 0 })
    else if bytes_eq w (codes "solve") then Some (record { kind = kinds.Solve; term = 0 })
    else None

-- ---- what is due on a line, and the words behind it

unfoldable pub next_at : ℕ → Words → Result (List ℕ × Words) SheetFault
next_at line [] = Err (syntax line)
next_at line (w ∷ words) = Ok (w, words)

unfoldable pub word_at : ℕ → List ℕ → Words → Result Words SheetFault
word_at line due words = next_at line words >>= λ next. if bytes_eq next.0 due then Ok next.1 else Err (syntax line)

unfoldable pub part_at : ℕ → Words → Result (ℕ × Words) SheetFault
part_at line words = next_at line words >>= λ next. some_or (syntax line) (part_of next.0) >>= λ n. Ok (n, next.1)

unfoldable pub head_at : ℕ → Words → Result (TaskHead × Words) SheetFault
head_at line words = next_at line words >>= λ next. some_or (syntax line) (head_of next.0) >>= λ head. Ok (head, next.1)

-- the inner part of a task behind a comma; a solve has none
unfoldable pub inner_part_at : ℕ → Kind → Words → Result (ℕ × Words) SheetFault
inner_part_at line kinds.Solve words = Ok (0, words)
inner_part_at line _ words = word_at line (codes ",") words >>= λ comma. part_at line comma

unfoldable pub task_at : ℕ → Words → Result (Task × Words) SheetFault
task_at line words = do
  head ← head_at line words
  open_sign ← word_at line (codes "(") head.1
  i ← part_at line open_sign
  comma ← word_at line (codes ",") i.1
  j ← part_at line comma
  k ← inner_part_at line head.0.kind j.1
  close ← word_at line (codes ")") k.1
  Ok (record { kind = head.0.kind; term = head.0.term; i = i.0; j = j.0; k = k.0 }, close)

-- the tasks behind those found, up to the line's end, so many of them at most
unfoldable pub tasks_from : ℕ → ℕ → List Task → Words → Result (List Task) SheetFault
tasks_from zero line found words = Ok found
tasks_from (suc n) line found [] = Ok found
tasks_from (suc n) line found (w ∷ words) = task_at line (w ∷ words) >>= λ read. tasks_from n line (found ++ read.0 ∷ []) read.1

-- all tasks up to the line's end, of which there are no more than words
abbrev pub tasks_at : ℕ → Words → Result (List Task) SheetFault
tasks_at line words = tasks_from (length words) line [] words

-- no word is left
unfoldable pub nothing_left : ℕ → Words → Result (Unit {0}) SheetFault
nothing_left line [] = Ok tt
nothing_left line (w ∷ words) = Err (syntax line)
