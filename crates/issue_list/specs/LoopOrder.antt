-- Which iteration of a loop does a task, and the tasks in the order of a list of such places.
use Rattle.std.specs.Prelude.{◌≡◌, ℕ, ◌+◌, ◌<◌, ◌==◌, List, map, filter, true, false, Some, IsTrue}
use Rattle.operation_spec.specs.declared.operation.Operation.{Operation}
use Rattle.operation_spec.specs.declared.task.Task.{Task}
use Rattle.task_graph.specs.Tasks.{has}
use Rattle.invariant_family.specs.declared.variant.Variant.{Variant}
use Rattle.invariant_family.specs.Families.{family_of, variant_numbered}
use Rattle.issue_list.specs.declared.loop_order.Placed.{Placed}
use Rattle.issue_list.specs.IssuedSteps.{is_done, iterations}

-- variant v is one of the operation
abbrev pub IsInFamily : Operation → Variant → Type 0
IsInFamily op v = (n : ℕ) × (variant_numbered (family_of op) n ≡ Some v)

-- the operation has the task, which is undone before the iteration and done after it
pub record IsPlaced (op : Operation) (counts : List ℕ) (v : Variant) (placed : Placed) : Type 0 where
  pub there : IsTrue (has op counts placed.task)
  pub within : placed.iteration < iterations counts v.split
  pub undone : is_done op counts v placed.iteration placed.task ≡ false
  pub done : is_done op counts v (placed.iteration + 1) placed.task ≡ true

-- the tasks of iteration t
abbrev pub tasks_placed : List Placed → ℕ → List Task
tasks_placed placed t = map (λ p. p.task) (filter (λ p. p.iteration == t) placed)
