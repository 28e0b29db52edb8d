-- The verdict on a worksheet as text: that it is right, or its first wrong place with what was found there and what is due.
use Rattle.std.specs.Prelude.{ℕ, List, ◌++◌, Bool, if◌then◌else◌, codes, decimal}
use Rattle.std.specs.List.{flat_map}
use Rattle.operation_spec.specs.declared.operation.Operation.{Operation}
use Rattle.worksheet.specs.declared.sheet.End.{End}
use Rattle.worksheet.specs.declared.sheet.State.{State}
use Rattle.worksheet.specs.declared.verdict.Shown.{Shown}
use Rattle.worksheet.specs.declared.verdict.Shown.TheVariants.{Nothing, One, Dims, Ends, Line}
use Rattle.worksheet.specs.declared.verdict.Verdict.{Verdict}
use Rattle.worksheet.specs.declared.verdict.Verdict.TheVariants.{Right, Wrong}
use Rattle.worksheet.specs.declared.verdict.WsPlace.{WsPlace}
use Rattle.worksheet.specs.declared.verdict.WsPlace.TheVariants.{Order, F1, F2, F3, F4, Guard, Start, Take, Before, Update, Give, After}
use Rattle.task_texts.specs.DimTexts.{dim_name}
use Rattle.task_texts.specs.TaskTexts.{task_text, tasks_text}

-- ---- places

abbrev pub sheet_place : WsPlace → List ℕ
sheet_place Order = codes "invariant order"
sheet_place F1 = codes "invariant F1"
sheet_place F2 = codes "invariant F2"
sheet_place F3 = codes "invariant F3"
sheet_place F4 = codes "invariant F4"
sheet_place Guard = codes "guard"
sheet_place Start = codes "start"
sheet_place Take = codes "take"
sheet_place (Before p) = codes "before " ++ decimal p
sheet_place (Update p) = codes "update " ++ decimal p
sheet_place Give = codes "give"
sheet_place (After p) = codes "after " ++ decimal p

-- ---- what is shown, behind a space

abbrev pub end_word : Bool → List ℕ
end_word last = if last then codes "last" else codes "first"

-- the names of dimensions, each behind a space
abbrev pub dims_text : Operation → List ℕ → List ℕ
dims_text op = flat_map (λ d. codes " " ++ dim_name op d)

-- and each with its end
abbrev pub ends_text : Operation → List End → List ℕ
ends_text op = flat_map (λ e. codes " " ++ dim_name op e.dim ++ codes " " ++ end_word e.last)

-- a block by its place, and the tasks that are done of it
abbrev pub state_text : State → List ℕ
state_text state = codes " " ++ decimal state.row ++ codes " " ++ decimal state.col ++ codes " :" ++ tasks_text state.done

abbrev pub shown_text : Operation → Shown → List ℕ
shown_text op Nothing = codes " -"
shown_text op (One task) = codes " " ++ task_text task
shown_text op (Dims dims) = dims_text op dims
shown_text op (Ends ends) = ends_text op ends
shown_text op (Line state) = state_text state

-- ---- the whole

abbrev pub verdict_text : Operation → Verdict → List ℕ
verdict_text op Right = codes "right\n"
verdict_text op (Wrong place found due) =
    codes "wrong " ++ sheet_place place ++ codes " found" ++ shown_text op found ++ codes " due" ++ shown_text op due ++ codes "\n"
