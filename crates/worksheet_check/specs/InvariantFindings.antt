-- What can be wrong with the invariant of a worksheet: its order, and the rules of feasible sets.
use Rattle.std.specs.Prelude.{List, [], ◌∷◌, Bool, true, ◌&&◌, not, if◌then◌else◌, Option, Some, None}
use Rattle.std.specs.List.{find, list_any}
use Rattle.std.specs.Option.{option_map}
use Rattle.operation_spec.specs.declared.operation.Operation.{Operation}
use Rattle.operation_spec.specs.declared.split.Split.{Split}
use Rattle.operation_spec.specs.declared.split.Dirs.{Dirs}
use Rattle.operation_spec.specs.declared.task.Task.{Task}
use Rattle.task_graph.specs.declared.cut.Sides.{Sides}
use Rattle.task_graph.specs.Needs.{does_need}
use Rattle.task_graph.specs.Classes.{class_of}
use Rattle.task_graph.specs.Order.{is_earlier, tasks_of}
use Rattle.invariant_family.specs.Splits.{two_parts, three_parts, done_part, remaining_part, all_split_indices}
use Rattle.invariant_family.specs.Feasible.{holds}
use Rattle.worksheet.specs.declared.sheet.Worksheet.{Worksheet}
use Rattle.worksheet.specs.declared.verdict.Shown.TheVariants as shown
use Rattle.worksheet.specs.declared.verdict.WsPlace.TheVariants as places
use Rattle.worksheet.specs.Moments.{cut_before, cut_after, is_done}
use Rattle.worksheet_check.specs.declared.findings.Finding.{Finding}
use Rattle.worksheet_check.specs.Findings.{finding, task_shown}

-- ---- the order

-- a task comes after the one before it, if any
abbrev pub comes_after : Operation → Option Task → Task → Bool
comes_after op None a = true
comes_after op (Some b) a = is_earlier op b a

-- the first task of s that isn't one of the tasks, or doesn't come after the one before it
abbrev pub out_of_order : Operation → List Task → Option Task → List Task → Option Task
out_of_order op tasks before [] = None
out_of_order op tasks before (a ∷ s) = if holds tasks a && comes_after op before a then out_of_order op tasks (Some a) s else Some a

abbrev pub order_finding : Operation → List Task → List Task → Option Finding
order_finding op tasks s = option_map (λ a. finding places.Order (shown.One a) shown.Nothing) (out_of_order op tasks None s)

-- ---- the rules

-- a needs b, which is outside s
abbrev pub lacks : Operation → List Task → Task → Task → Bool
lacks op s a b = does_need op a b && not (holds s b)

-- the first task of s that needs a task outside it, and the first such task
abbrev pub need_finding : Operation → List Task → List Task → Option Finding
need_finding op tasks s = option_map (λ a. finding places.F1 (shown.One a) (task_shown (find (lacks op s a) tasks)))
    (find (λ a. list_any (lacks op s a) tasks) s)

-- the first task of s with all split indices remaining
abbrev pub remaining_finding : Operation → Split → Dirs → List Task → Option Finding
remaining_finding op split dirs s = option_map (λ a. finding places.F2 (shown.One a) shown.Nothing)
    (find (all_split_indices op split dirs remaining_part) s)

-- the first task outside s with all split indices done
abbrev pub done_finding : Operation → Split → Dirs → List Task → List Task → Option Finding
done_finding op split dirs tasks s = option_map (λ a. finding places.F3 shown.Nothing (shown.One a))
    (find (λ a. all_split_indices op split dirs done_part a && not (holds s a)) tasks)

-- the first task of the cut in three parts that was done before and isn't after: its class with the middle remaining is
-- one of s, and its class with the middle done isn't
abbrev pub undone_finding : Operation → List Sides → List Sides → List Task → List Task → Option Finding
undone_finding op before after tasks s = option_map (λ a. finding places.F4 (shown.One (class_of op before a)) (shown.One (class_of op after a)))
    (find (λ a. is_done op s before a && not (is_done op s after a)) tasks)

-- all of these, in order
abbrev pub invariant_findings : Operation → Worksheet → List (Option Finding)
invariant_findings op w =
    let two = tasks_of op (two_parts op w.split) in
    let three = tasks_of op (three_parts op w.split) in
    order_finding op two w.invariant
    ∷ need_finding op two w.invariant
    ∷ remaining_finding op w.split w.dirs w.invariant
    ∷ done_finding op w.split w.dirs two w.invariant
    ∷ undone_finding op (cut_before op w.split w.dirs) (cut_after op w.split w.dirs) three w.invariant
    ∷ []
