use Rattle.std.proofs.Common.{◌∙◌, get_or, refl}
use Rattle.std.proofs.lemmas.List.Elements.{All-push, All-same}
use Rattle.step_replays.specs.Replays.{pivots_task}
use Rattle.issue_list.specs.LoopOrder.{IsPlaced}
use Rattle.issue_list.proofs.PlacedTasks.{first-undone, last-done, placed-by, placed-more}
use Rattle.issue_list.proofs.loop_order.places.Goals as goal

pub iteration_of-requires-clause-undone : goal.iteration_of-requires-clause-undone
iteration_of-requires-clause-undone c =
    first-undone c.args.op.now c.args.counts.now c.args.variant.now c.as_slice.result.now c.as_slice.ensures c.as_slice-2.result.now
    (c.as_slice-2.ensures.value ∙ c.in_ok-cuts.ensures) c.requires.valid c.requires.variant (get_or c.args.own.now c.loop-task.task-index pivots_task) (c.requires.tasks c.loop-task.task-index pivots_task c.loop-task-test.true)

pub iteration_of-requires-clause-done : goal.iteration_of-requires-clause-done
iteration_of-requires-clause-done c =
    last-done c.args.op.now c.args.counts.now c.args.variant.now c.as_slice.result.now c.as_slice.ensures c.as_slice-2.result.now
    (c.as_slice-2.ensures.value ∙ c.in_ok-cuts.ensures) c.requires.valid c.requires.variant (get_or c.args.own.now c.loop-task.task-index pivots_task) (c.requires.tasks c.loop-task.task-index pivots_task c.loop-task-test.true)

pub loop-task-preserved : goal.loop-task-preserved
loop-task-preserved c = record {
  tasks = placed-more c.args.own.now c.loop-task.task-index pivots_task _ c.loop-task.placed.items c.push.new.self.items c.loop-task-test.true c.loop-task.invariant.tasks refl
      c.in_ok-push.ensures.items;
  iterations = All-same (IsPlaced c.args.op.now c.args.counts.now c.args.variant.now) c.push.new.self.items _ c.in_ok-push.ensures.items
      (All-push (IsPlaced c.args.op.now c.args.counts.now c.args.variant.now) c.loop-task.placed.items _ c.loop-task.invariant.iterations
      (placed-by c.args.op.now c.args.counts.now c.args.variant.now c.as_slice.result.now c.as_slice.ensures c.as_slice-2.result.now
      (c.as_slice-2.ensures.value ∙ c.in_ok-cuts.ensures) c.iteration_of.result (get_or c.args.own.now c.loop-task.task-index pivots_task) (c.requires.tasks c.loop-task.task-index pivots_task c.loop-task-test.true)
      c.iteration_of.ensures.within c.iteration_of.ensures.undone c.iteration_of.ensures.done));
}
