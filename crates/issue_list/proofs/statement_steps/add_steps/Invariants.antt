use Rattle.std.proofs.Common.{◌≡◌, ◌++◌, map, take}
use Rattle.issue_list.specs.CanonicalSteps.{step_of}
use Rattle.issue_list.proofs.statement_steps.add_steps.Given as goal

abbrev pub invariant-loop-task : goal.invariant-loop-task
invariant-loop-task l = l.steps ≡ l.initial.steps ++ map (step_of l.blocks.job l.blocks.b l.s) (take l.task-index l.tasks)
