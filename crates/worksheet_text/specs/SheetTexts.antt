-- A worksheet as text. Comments say the operation's equation, and behind each line of a state what the block holds.
use Rattle.std.specs.Prelude.{ℕ, List, ◌++◌, codes, decimal, Bool, true, false}
use Rattle.std.specs.List.{flat_map}
use Rattle.operation_spec.specs.declared.operation.Operation.{Operation}
use Rattle.operation_spec.specs.declared.task.Task.{Task}
use Rattle.operation_spec.specs.OperationLines.{equation_words}
use Rattle.operation_spec.specs.WordTexts.{words_text}
use Rattle.task_texts.specs.DimTexts.{dim_name, split_text}
use Rattle.task_texts.specs.TaskTexts.{task_text, tasks_text}
use Rattle.block_values.specs.Orders.{in_order}
use Rattle.block_values.specs.States.{state_tree}
use Rattle.block_expr.specs.Texts.{tree_text}
use Rattle.worksheet.specs.declared.sheet.End.{End}
use Rattle.worksheet.specs.declared.sheet.State.{State}
use Rattle.worksheet.specs.declared.sheet.Worksheet.{Worksheet}

-- ---- parts of lines

abbrev pub end_text : Bool → List ℕ
end_text false = codes "first"
end_text true = codes "last"

-- each dimension behind a space
abbrev pub dims_text : Operation → List ℕ → List ℕ
dims_text op = flat_map (λ d. codes " " ++ dim_name op d)

-- and the same with its end
abbrev pub ends_text : Operation → List End → List ℕ
ends_text op = flat_map (λ (e : End). codes " " ++ dim_name op e.dim ++ codes " " ++ end_text e.last)

-- ---- lines

-- the name of the operation, and in comments its postcondition and equation
abbrev pub head_lines : Operation → List ℕ → List ℕ
head_lines op name = codes "worksheet " ++ name ++ codes "\n# 1a X = " ++ op.work.name ++ codes "\n# 1b" ++ words_text (equation_words op) ++ codes "\n"

abbrev pub split_line : Operation → Worksheet → List ℕ
split_line op w = codes "split" ++ split_text op w.split w.dirs ++ codes "\n"

abbrev pub invariant_line : List Task → List ℕ
invariant_line kept = codes "invariant" ++ tasks_text kept ++ codes "\n"

abbrev pub guard_line : Operation → List ℕ → List ℕ
guard_line op dims = codes "guard" ++ dims_text op dims ++ codes "\n"

abbrev pub ends_line : Operation → List ℕ → List End → List ℕ
ends_line op word ends = word ++ ends_text op ends ++ codes "\n"

-- a block with its tasks that are done
abbrev pub done_text : List ℕ → State → List ℕ
done_text word s = word ++ codes " " ++ decimal s.row ++ codes " " ++ decimal s.col ++ codes " :" ++ tasks_text s.done

-- in a comment what the block holds then
abbrev pub held_text : Operation → State → List ℕ
held_text op s = codes " # " ++ tree_text op (state_tree op s.row s.col (in_order op s.done)) ++ codes "\n"

abbrev pub state_line : Operation → List ℕ → State → List ℕ
state_line op word s = done_text word s ++ held_text op s

abbrev pub update_line : Task → List ℕ
update_line a = codes "update " ++ task_text a ++ codes "\n"

-- ---- the whole

-- the lines up to the states
abbrev pub loop_lines : Operation → Worksheet → List ℕ
loop_lines op w = split_line op w ++ invariant_line w.invariant ++ guard_line op w.guard ++ ends_line op (codes "start") w.start ++ ends_line op (codes "take") w.take

-- one round of the loop
abbrev pub round_lines : Operation → Worksheet → List ℕ
round_lines op w = flat_map (state_line op (codes "before")) w.before ++ flat_map update_line w.updates ++ ends_line op (codes "give") w.give
    ++ flat_map (state_line op (codes "after")) w.after

abbrev pub worksheet_text : Operation → Worksheet → List ℕ
worksheet_text op w = head_lines op w.operation ++ loop_lines op w ++ round_lines op w ++ codes "end\n"
