-- Tasks in canonical order.
use Rattle.std.specs.Prelude.{◌≡◌, ◌≢◌, ℕ, List, [], ◌∷◌, true, if◌then◌else◌, AllPairs, Contains}
use Rattle.operation_spec.specs.declared.operation.Operation.{Operation}
use Rattle.operation_spec.specs.declared.task.Task.{Task}
use Rattle.task_graph.specs.Order.{is_earlier}
use Rattle.task_graph.specs.Tasks.{has}

-- a task put in front of the first one that it is earlier than
abbrev pub placed : Operation → Task → List Task → List Task
placed op a [] = a ∷ []
placed op a (b ∷ tasks) = if is_earlier op a b then a ∷ b ∷ tasks else b ∷ placed op a tasks

-- all tasks of a list put into one that is in order, one after another
abbrev pub placed_all : Operation → List Task → List Task → List Task
placed_all op sorted [] = sorted
placed_all op sorted (a ∷ tasks) = placed_all op (placed op a sorted) tasks

-- the tasks in canonical order, in whatever order they are listed
abbrev pub in_order : Operation → List Task → List Task
in_order op tasks = placed_all op [] tasks

-- the list has each task of block (i, j) once, and no other
pub record AreAll (op : Operation) (counts : List ℕ) (i j : ℕ) (done : List Task) : Type 0 where
  pub once : AllPairs (λ a b. a ≢ b) done
  pub own : (a : Task) → Contains done a → (has op counts a ≡ true) × (a.i ≡ i) × (a.j ≡ j)
  pub all : (a : Task) → (has op counts a ≡ true) × (a.i ≡ i) × (a.j ≡ j) → Contains done a
