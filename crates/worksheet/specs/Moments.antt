-- The two moments of a round of the loop: before, when the middle part was taken from what remains, and after, when it
-- was added to what is done.
use Rattle.std.specs.Prelude.{ℕ, List, Bool, ◌&&◌, not, ◌==◌, map, filter}
use Rattle.operation_spec.specs.declared.operation.Operation.{Operation}
use Rattle.operation_spec.specs.declared.split.Split.{Split}
use Rattle.operation_spec.specs.declared.split.Dirs.{Dirs}
use Rattle.operation_spec.specs.declared.task.Task.{Task}
use Rattle.equation.specs.declared.job.Place.{Place}
use Rattle.task_graph.specs.declared.cut.Sides.{Sides}
use Rattle.task_graph.specs.Classes.{class_of}
use Rattle.task_graph.specs.Order.{tasks_of}
use Rattle.invariant_family.specs.Splits.{three_parts, middle_remaining, middle_done, cut_by}
use Rattle.invariant_family.specs.Feasible.{holds}
use Rattle.block_expr.specs.Places.{work_places}
use Rattle.worksheet.specs.declared.sheet.State.{State}

-- three parts as two, before and after
abbrev pub cut_before : Operation → Split → Dirs → List Sides
cut_before op split dirs = cut_by op split dirs middle_remaining

abbrev pub cut_after : Operation → Split → Dirs → List Sides
cut_after op split dirs = cut_by op split dirs middle_done

-- under the invariant s a task is done at a moment where its class is one of s
abbrev pub is_done : Operation → List Task → List Sides → Task → Bool
is_done op s cut a = holds s (class_of op cut a)

-- the task is one of this block
abbrev pub is_at : Place → Task → Bool
is_at at a = a.i == at.row && a.j == at.col

-- a block with those of its tasks that pass a test
abbrev pub state_of : (Task → Bool) → List Task → Place → State
state_of test tasks at = record { row = at.row; col = at.col; done = filter (λ a. is_at at a && test a) tasks }

-- each block of W's structure, row by row, with exactly its tasks that are done at a moment, in canonical order
abbrev pub states_at : Operation → Split → List Task → List Sides → List State
states_at op split s cut = map (state_of (is_done op s cut) (tasks_of op (three_parts op split))) (work_places op (three_parts op split))

-- the task is done after and not before
abbrev pub is_update : Operation → List Task → List Sides → List Sides → Task → Bool
is_update op s before after a = is_done op s after a && not (is_done op s before a)

-- these tasks, in canonical order
abbrev pub updates_of : Operation → Split → Dirs → List Task → List Task
updates_of op split dirs s = filter (is_update op s (cut_before op split dirs) (cut_after op split dirs)) (tasks_of op (three_parts op split))
