use Rattle.std.proofs.Common.{◌∙◌}
use Rattle.matrix_parts.specs.Lent.{grid_of}
use Rattle.task_values.proofs.FoundTasks.{alone-does, alone-done}
use Rattle.task_values.proofs.run.Run.step.Goals as goal

pub done_on_part-requires-clause-can : goal.done_on_part-requires-clause-can
done_on_part-requires-clause-can c =
    let t = c.task-task.ensures in
    let q = c.requires in
    alone-does c.args.self.now q.run c.args.n q.within c.args.reads.now (grid_of c.args.w.now) q.finds c.task-task.result
    (record { modulus = t.modulus; size = t.size; operation = t.operation; task = t.task; few = t.few })
    c.args.numbers.now q.numbers t.reads (t.store ∙ c.reborrow.ensures)

pub done_on_part-requires-clause-room : goal.done_on_part-requires-clause-room
done_on_part-requires-clause-room c = rw c.task-task.ensures.size c.requires.room

pub returns-clause-outcome : goal.returns-clause-outcome
returns-clause-outcome c =
    let t = c.task-task.ensures in
    let q = c.requires in
    alone-done c.args.self.now q.run c.args.n q.within c.args.reads.now (grid_of c.args.w.now) q.finds c.task-task.result
    (record { modulus = t.modulus; size = t.size; operation = t.operation; task = t.task; few = t.few })
    c.args.numbers.now q.numbers t.reads (t.store ∙ c.reborrow.ensures)
    c.done_on_part.result (grid_of c.done_on_part.new.w) c.done_on_part.ensures.outcome
