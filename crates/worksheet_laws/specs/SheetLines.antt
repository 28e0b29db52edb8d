-- A worksheet as lines of words.
use Rattle.std.specs.Prelude.{ℕ, List, [], ◌∷◌, ◌++◌, codes, decimal, map, Option, Some, None}
use Rattle.std.specs.List.{flat_map}
use Rattle.operation_spec.specs.declared.operation.Operation.{Operation}
use Rattle.operation_spec.specs.declared.split.Dir.{Dir}
use Rattle.operation_spec.specs.declared.task.Kind.{Kind}
use Rattle.operation_spec.specs.declared.task.Kind.TheVariants as kinds
use Rattle.operation_spec.specs.declared.task.Task.{Task}
use Rattle.task_texts.specs.DimTexts.{dim_name, dir_text}
use Rattle.worksheet.specs.declared.sheet.End.{End}
use Rattle.worksheet.specs.declared.sheet.State.{State}
use Rattle.worksheet.specs.declared.sheet.Worksheet.{Worksheet}
use Rattle.worksheet_text.specs.SheetTexts.{end_text}
use Rattle.worksheet_text.specs.SheetWords.{Words}

-- ---- tasks

-- the kind of a task, with the number of its term
abbrev pub head_word : Kind → ℕ → List ℕ
head_word kinds.Pivots t = codes "pivots"
head_word kinds.Term t = codes "term" ++ decimal t
head_word kinds.Left t = codes "left"
head_word kinds.Right t = codes "right"
head_word kinds.Solve t = codes "solve"

-- its inner part, behind a comma; a solve has none
abbrev pub inner_words : Kind → ℕ → Words
inner_words kinds.Solve k = []
inner_words _ k = codes "," ∷ decimal k ∷ []

abbrev pub task_words : Task → Words
task_words a = head_word a.kind a.term ∷ codes "(" ∷ decimal a.i ∷ codes "," ∷ decimal a.j ∷ (inner_words a.kind a.k ++ (codes ")" ∷ []))

abbrev pub tasks_words : List Task → Words
tasks_words tasks = flat_map task_words tasks

-- ---- dimensions

-- a dimension and its direction
abbrev pub along_words : Operation → ℕ → Dir → Words
along_words op d dir = dim_name op d ∷ dir_text dir ∷ []

abbrev pub second_words : Operation → Option ℕ → Dir → Words
second_words op None dir = []
second_words op (Some d) dir = along_words op d dir

-- each dimension with its end
abbrev pub ends_words : Operation → List End → Words
ends_words op ends = flat_map (λ (e : End). dim_name op e.dim ∷ end_text e.last ∷ []) ends

-- ---- lines

abbrev pub split_words : Operation → Worksheet → Words
split_words op w = codes "split" ∷ (along_words op w.split.first w.dirs.first ++ second_words op w.split.second w.dirs.second)

-- a block with its tasks that are done, behind `before` or `after`
abbrev pub state_words : List ℕ → State → Words
state_words word s = word ∷ decimal s.row ∷ decimal s.col ∷ codes ":" ∷ tasks_words s.done

abbrev pub update_words : Task → Words
update_words a = codes "update" ∷ task_words a

-- from `give` on
abbrev pub last_lines : Operation → Worksheet → List Words
last_lines op w = (codes "give" ∷ ends_words op w.give) ∷ (map (state_words (codes "after")) w.after ++ ((codes "end" ∷ []) ∷ []))

-- the states before, and the lines behind them
abbrev pub lines_of_round : Operation → Worksheet → List Words
lines_of_round op w = map (state_words (codes "before")) w.before ++ (map update_words w.updates ++ last_lines op w)

-- all lines
abbrev pub sheet_lines : Operation → Worksheet → List Words
sheet_lines op w = (codes "worksheet" ∷ w.operation ∷ [])
    ∷ split_words op w
    ∷ (codes "invariant" ∷ tasks_words w.invariant)
    ∷ (codes "guard" ∷ map (dim_name op) w.guard)
    ∷ (codes "start" ∷ ends_words op w.start)
    ∷ (codes "take" ∷ ends_words op w.take)
    ∷ lines_of_round op w
