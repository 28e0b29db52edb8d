-- The rules of feasible sets as the walk looks at them: which task is held wherever another one is, and which tasks may
-- be held or be lacking at all.
use Rattle.std.specs.Prelude.{List, Bool, ◌&&◌, ◌||◌, not}
use Rattle.std.specs.List.{list_all, list_any}
use Rattle.operation_spec.specs.declared.operation.Operation.{Operation}
use Rattle.operation_spec.specs.declared.split.Split.{Split}
use Rattle.operation_spec.specs.declared.split.Dirs.{Dirs}
use Rattle.operation_spec.specs.declared.task.Task.{Task}
use Rattle.task_graph.specs.declared.cut.Sides.{Sides}
use Rattle.task_graph.specs.Needs.{does_need}
use Rattle.task_graph.specs.Classes.{class_of}
use Rattle.invariant_family.specs.declared.rules.ClassPair.{ClassPair}
use Rattle.invariant_family.specs.Splits.{done_part, remaining_part, middle_remaining, middle_done, cut_by, all_split_indices}
use Rattle.invariant_family.specs.Feasible.{same_task, holds}

-- the classes of a task under two cuts
abbrev pub classes_by : Operation → List Sides → List Sides → Task → ClassPair
classes_by op remaining done task = record { remaining = class_of op remaining task; done = class_of op done task }

-- the two classes of a task of the cut in three parts
abbrev pub class_pair : Operation → Split → Dirs → Task → ClassPair
class_pair op split dirs = classes_by op (cut_by op split dirs middle_remaining) (cut_by op split dirs middle_done)

-- a set that holds a holds b: a needs b, or they are the two classes of one task
abbrev pub wants : Operation → List ClassPair → Task → Task → Bool
wants op pairs a b = does_need op a b || list_any (λ pair. same_task pair.remaining a && same_task pair.done b) pairs

-- not all split indices of a remain, and where it is the first class of a task, the second is one of the tasks
abbrev pub may_hold : Operation → Split → Dirs → List Task → List ClassPair → Task → Bool
may_hold op split dirs tasks pairs a = not (all_split_indices op split dirs remaining_part a)
    && list_all (λ pair. not (same_task pair.remaining a) || holds tasks pair.done) pairs

-- not all split indices of a are done
abbrev pub may_lack : Operation → Split → Dirs → Task → Bool
may_lack op split dirs a = not (all_split_indices op split dirs done_part a)
