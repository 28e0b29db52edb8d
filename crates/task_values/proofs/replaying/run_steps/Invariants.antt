use Rattle.task_values.specs.Progress.{IsGone}
use Rattle.task_values.proofs.replaying.run_steps.Given as goal

-- the steps so far were gone through
abbrev pub invariant-loop-n : goal.invariant-loop-n
invariant-loop-n l = IsGone l.run l.n l.store
