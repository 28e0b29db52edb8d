use Rattle.std.proofs.Common.{◌≡◌, ◌++◌, ◌+◌, drop}
use Rattle.variant_report.specs.PmeTexts.{task_lines}
use Rattle.variant_report.proofs.pmes.put_task_lines.Given as goal

-- the number of the last task, what is appended, and the lines of the tasks that are left
abbrev pub invariant-loop-task : goal.invariant-loop-task
invariant-loop-task l = record {
  number : l.number ≡ l.task-index;
  lines : l.out.items ++ task_lines (l.task-index + 1) (drop l.task-index l.tasks) l.edges ≡ l.fn.out.items ++ task_lines 1 l.tasks l.edges;
}
