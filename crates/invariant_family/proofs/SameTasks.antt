-- The test whether two tasks are one. Cited by the laws of families and by the walk.
use Rattle.std.proofs.Common.{◌≡◌, ◌≢◌, true, false, arith}
use Rattle.std.specs.Prelude.{◌==◌}
use Rattle.std.proofs.lemmas.Bool.{and_parts, false_from_ne_true, eqb-true}
use Rattle.std.proofs.lemmas.Bool.Decides.{nat_tests}
use Rattle.operation_spec.specs.declared.task.Task.{Task}
use Rattle.task_graph.specs.Order.{rank}
use Rattle.task_graph.proofs.EarlierTasks as earlier_tasks
use Rattle.invariant_family.specs.Feasible.{same_task}

pub same_task-refl : (a : Task) → same_task a a ≡ true
same_task-refl a = grind (arith, nat_tests)

-- tasks that pass the test of being one are one
pub same_task-true : (a b : Task) → same_task a b ≡ true → a ≡ b
same_task-true a b h =
    let k = and_parts _ (a.k == b.k) h in
    let j = and_parts _ (a.j == b.j) k.0 in
    let i = and_parts _ (a.i == b.i) j.0 in
    let first = and_parts (rank a.kind == rank b.kind) (a.term == b.term) i.0 in
    earlier_tasks.same_task a b (eqb-true a.i b.i i.1) (eqb-true a.j b.j j.1) (eqb-true (rank a.kind) (rank b.kind) first.0) (eqb-true a.term b.term first.1) (eqb-true a.k b.k k.1)

pub same_task-false : (a b : Task) → a ≢ b → same_task a b ≡ false
same_task-false a b ne = false_from_ne_true (same_task a b) (λ e. ne (same_task-true a b e))
