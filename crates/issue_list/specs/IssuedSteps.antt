-- The steps of a job by chosen variants: for each statement the test of its pivots and then, iteration by iteration of its loop, the tasks that
-- become done.
use Rattle.std.specs.Prelude.{◌≡◌, ℕ, zero, suc, ◌+◌, ◌-◌, ◌≤◌, ◌&&◌, not, min, max, List, [], ◌++◌, length, map, filter, Bool, Option, Some, None, if◌then◌else◌, slice_index_or}
use Rattle.std.specs.List.{flat_map, range_with_len}
use Rattle.operation_spec.specs.declared.operation.Operation.{Operation}
use Rattle.operation_spec.specs.declared.split.Split.{Split}
use Rattle.operation_spec.specs.declared.split.Dirs.{Dirs}
use Rattle.operation_spec.specs.declared.split.Dir.{Dir}
use Rattle.operation_spec.specs.declared.split.Dir.TheVariants.{Forward, Backward}
use Rattle.operation_spec.specs.declared.task.Task.{Task}
use Rattle.task_graph.specs.declared.cut.Sides.{Sides}
use Rattle.task_graph.specs.declared.cut.Sides.TheVariants.{One, Two}
use Rattle.task_graph.specs.Classes.{class_of}
use Rattle.task_graph.specs.Order.{numbers_below, tasks_of}
use Rattle.task_graph.specs.Tasks.{parts_of}
use Rattle.invariant_family.specs.declared.variant.Variant.{Variant}
use Rattle.invariant_family.specs.Splits.{dir_of, is_split}
use Rattle.invariant_family.specs.Feasible.{holds}
use Rattle.invariant_family.specs.Families.{family_of, variant_numbered}
use Rattle.equation.specs.declared.job.Job.{Job}
use Rattle.step_replays.specs.declared.step.Step.{Step}
use Rattle.step_replays.specs.Accesses.{operation_of, statement_of}
use Rattle.step_replays.specs.Fits.{counts_of}
use Rattle.issue_list.specs.CanonicalSteps.{pivots_tasks, step_of}

-- ---- the tasks of one statement

-- of p parts, after t iterations the first t are done forward and the last t backward, or all where there are no more; they stand on the side of
-- the done part
abbrev pub side_after : Dir → ℕ → ℕ → Sides
side_after Forward p t = Two (min t p)
side_after Backward p t = Two (p - min t p)

-- all dimensions of the split advance together, and the others are one part
abbrev pub cut_after : Operation → List ℕ → Split → Dirs → ℕ → List Sides
cut_after op counts split dirs t = map (λ d. if is_split split d then side_after (dir_of split dirs d) (parts_of counts d) t else One) (numbers_below (length op.dims))

-- the task's class after t iterations is kept by the variant
abbrev pub is_done : Operation → List ℕ → Variant → ℕ → Task → Bool
is_done op counts v t u = holds v.kept (class_of op (cut_after op counts v.split v.dirs t) u)

-- iteration t, from 0 on, does what isn't done before it and is done after it, in canonical order
abbrev pub is_next : Operation → List ℕ → Variant → ℕ → Task → Bool
is_next op counts v t u = not (is_done op counts v t u) && is_done op counts v (t + 1) u

abbrev pub tasks_in : Operation → List ℕ → Variant → ℕ → List Task
tasks_in op counts v t = filter (is_next op counts v t) (tasks_of op counts)

-- the loop ends when each dimension of the split is done
abbrev pub iterations : List ℕ → Split → ℕ
iterations counts split = max (parts_of counts split.first) (second split.second)
  where
    second : Option ℕ → ℕ
    second None = 0
    second (Some d) = parts_of counts d

abbrev pub issued_tasks : Operation → List ℕ → Variant → List Task
issued_tasks op counts v = pivots_tasks op ++ flat_map (tasks_in op counts v) (range_with_len 0 (iterations counts v.split))

-- ---- the steps of a job, by the number of each statement's variant; statements are numbered from 1

-- variant n of the operation of statement s
abbrev pub variant_of : Job → ℕ → ℕ → Option Variant
variant_of job s n = variant_numbered (family_of (operation_of job (statement_of job s))) n

-- the number of a statement, where a number 0 stands for none
abbrev pub number_for : List ℕ → ℕ → ℕ
number_for numbers zero = 0
number_for numbers (suc before) = slice_index_or numbers before 0

-- the tasks of a statement by its variant, where there is one
abbrev pub tasks_by : Operation → List ℕ → Option Variant → List Task
tasks_by op counts None = []
tasks_by op counts (Some v) = issued_tasks op counts v

unfoldable pub issued_statement_steps : Job → ℕ → List ℕ → ℕ → List Step
issued_statement_steps job b numbers s = map (step_of job b s) (tasks_by (operation_of job (statement_of job s)) (counts_of job b s) (variant_of job s (number_for numbers s)))

unfoldable pub issued_steps : Job → ℕ → List ℕ → List Step
issued_steps job b numbers = flat_map (issued_statement_steps job b numbers) (range_with_len 1 (length job.statements))

-- each statement has the variant with its number
abbrev pub HaveVariants : Job → List ℕ → Type 0
HaveVariants job numbers = (s : ℕ) → 1 ≤ s → s ≤ length job.statements → (v : Variant) × (variant_of job s (number_for numbers s) ≡ Some v)
