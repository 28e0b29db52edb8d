use Rattle.std.proofs.Common.{ap, ◌∙◌}
use Rattle.step_replays.specs.declared.step.Step.{Step}
use Rattle.task_values.proofs.FoundTasks.{store-does, store-done}
use Rattle.task_values.proofs.ReadRuns.{step-is}
use Rattle.task_values.proofs.run.Run.done.Goals as goal

pub done_on_matrix-requires-clause-can : goal.done_on_matrix-requires-clause-can
done_on_matrix-requires-clause-can c =
    let t = c.task-task.ensures in
    let step = step-is c.args.self.now c.requires.run c.args.n c.requires.ready.1.within c.index-self-n.result in
    store-does c.args.self.now c.requires.run c.args.n c.args.store.now c.args.block c.task-task.result
    (record { modulus = t.modulus; size = t.size; operation = t.operation; task = t.task; few = t.few })
    (t.reads ∙ c.as_slice-reads.ensures ∙ ap (λ (s : Step). s.access.reads) step) (t.store ∙ c.of_matrices.ensures) c.requires.ready

pub done_on_matrix-requires-clause-room : goal.done_on_matrix-requires-clause-room
done_on_matrix-requires-clause-room c = rw c.task-task.ensures.size c.requires.room

pub returns-clause-outcome : goal.returns-clause-outcome
returns-clause-outcome c =
    let t = c.task-task.ensures in
    let step = step-is c.args.self.now c.requires.run c.args.n c.requires.ready.1.within c.index-self-n.result in
    store-done c.args.self.now c.requires.run c.args.n c.args.store.now c.args.block c.task-task.result
    (record { modulus = t.modulus; size = t.size; operation = t.operation; task = t.task; few = t.few })
    (t.reads ∙ c.as_slice-reads.ensures ∙ ap (λ (s : Step). s.access.reads) step) (t.store ∙ c.of_matrices.ensures)
    c.done_on_matrix.result.bad c.done_on_matrix.result.block c.done_on_matrix.ensures.outcome
