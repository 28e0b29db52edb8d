use Rattle.std.proofs.Common.{◌≡◌, ◌++◌, drop}
use Rattle.task_texts.specs.TaskTexts.{tasks_text}
use Rattle.task_texts.proofs.tasks.put_tasks.Given as goal

abbrev pub invariant-loop-task : goal.invariant-loop-task
invariant-loop-task l = l.out.items ++ tasks_text (drop l.task-index l.tasks) ≡ l.fn.out.items ++ tasks_text l.tasks
