-- Which sets of block tasks a loop can keep done.
use Rattle.std.specs.Prelude.{List, Bool, ◌&&◌, ◌||◌, not, ◌==◌}
use Rattle.std.specs.List.{list_all, list_any}
use Rattle.operation_spec.specs.declared.operation.Operation.{Operation}
use Rattle.operation_spec.specs.declared.split.Split.{Split}
use Rattle.operation_spec.specs.declared.split.Dirs.{Dirs}
use Rattle.operation_spec.specs.declared.task.Task.{Task}
use Rattle.task_graph.specs.Order.{rank, tasks_of}
use Rattle.task_graph.specs.Needs.{does_need}
use Rattle.task_graph.specs.Classes.{class_of}
use Rattle.invariant_family.specs.Splits.{two_parts, three_parts, done_part, remaining_part, middle_remaining, middle_done, cut_by, all_split_indices}

-- the two are one block task
abbrev pub same_task : Task → Task → Bool
same_task a b = rank a.kind == rank b.kind && a.term == b.term && a.i == b.i && a.j == b.j && a.k == b.k

-- the set holds the task
abbrev pub holds : List Task → Task → Bool
holds s task = list_any (same_task task) s

-- closed under needs: the set holds every task that one of its tasks needs
abbrev pub is_closed : Operation → Split → List Task → Bool
is_closed op split s = list_all (λ a. list_all (λ b. not (does_need op a b) || holds s b) (tasks_of op (two_parts op split))) s

-- nothing of the remaining part: the set holds no task all of whose split indices remain
abbrev pub has_nothing_remaining : Operation → Split → Dirs → List Task → Bool
has_nothing_remaining op split dirs s = list_all (λ a. not (all_split_indices op split dirs remaining_part a)) s

-- all of the done part: the set holds every task all of whose split indices are done
abbrev pub has_all_done : Operation → Split → Dirs → List Task → Bool
has_all_done op split dirs s = list_all (λ a. not (all_split_indices op split dirs done_part a) || holds s a) (tasks_of op (two_parts op split))

-- no work undone: where the class of a task is held with the middle part remaining, it is held with the middle
-- part done
abbrev pub undoes_nothing : Operation → Split → Dirs → List Task → Bool
undoes_nothing op split dirs s = list_all
    (λ a. not (holds s (class_of op (cut_by op split dirs middle_remaining) a)) || holds s (class_of op (cut_by op split dirs middle_done) a))
    (tasks_of op (three_parts op split))

-- for a set of tasks of the two-part cut
abbrev pub is_feasible : Operation → Split → Dirs → List Task → Bool
is_feasible op split dirs s = is_closed op split s && has_nothing_remaining op split dirs s && has_all_done op split dirs s && undoes_nothing op split dirs s
