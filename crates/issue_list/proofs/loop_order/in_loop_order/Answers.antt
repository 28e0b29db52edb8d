use Rattle.std.proofs.Common.{◌≡◌, ℕ, true, List, ◌++◌, All, sym, ap, ◌∙◌, subst, arith}
use Rattle.std.specs.List.{flat_map, range_with_len}
use Rattle.operation_spec.specs.declared.task.Task.{Task}
use Rattle.task_graph.specs.Tasks.{has}
use Rattle.issue_list.specs.declared.loop_order.Placed.{Placed}
use Rattle.issue_list.specs.IssuedSteps.{iterations}
use Rattle.issue_list.specs.LoopOrder.{tasks_placed}
use Rattle.issue_list.proofs.NumbersInOrder.{flat_map_range_more}
use Rattle.issue_list.proofs.PlacedTasks.{tasks-placed}
use Rattle.issue_list.proofs.TasksOfStatements.{All-block_tasks}
use Rattle.issue_list.proofs.loop_order.in_loop_order.Goals as goal

pub places-requires-clause-tasks : goal.places-requires-clause-tasks
places-requires-clause-tasks c =
    subst (λ (own : List Task). All (λ u. has c.args.op.now c.args.counts.now u ≡ true) own) (sym c.requires.tasks) (All-block_tasks c.args.op.now c.args.counts.now)

pub loop-t-preserved : goal.loop-t-preserved
loop-t-preserved c =
    flat_map_range_more (tasks_placed c.in_ok-placed.placed.items) c.loop-t.t c.loop-t.invariant
    (c.in_ok-add_iteration.ensures ∙ ap (λ (placed : List Placed). c.loop-t.ordered.items ++ tasks_placed placed c.loop-t.t) c.as_slice.ensures.value)

pub returns : goal.returns
returns c =
    let op = c.args.op.now in
    let counts = c.args.counts.now in
    let v = c.args.variant.now in
    let placed = c.in_ok-placed.placed.items in
    let last : c.loop-t.t ≡ iterations counts v.split = omega (arith, c.iterations-t-end.ensures) in
    let same = tasks-placed op counts c.requires.valid v c.requires.variant placed (c.in_ok-placed.ensures.tasks ∙ c.requires.tasks) c.in_ok-placed.ensures.iterations in
    c.loop-t.invariant
    ∙ ap (λ (n : ℕ). flat_map (tasks_placed placed) (range_with_len 0 n)) last
    ∙ λ z. flat_map (λ t. same t z) (range_with_len 0 (iterations counts v.split))
