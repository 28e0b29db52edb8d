use Rattle.std.proofs.Common.{◌≡◌, ◌++◌, drop}
use Rattle.invariant_family.specs.Numbers.{set_of}
use Rattle.invariant_family.proofs.walk.set_of.Given as goal

-- the tasks so far, and those that the rest of the number gives
abbrev pub invariant-loop-task : goal.invariant-loop-task
invariant-loop-task l = l.set.items ++ set_of (drop l.task-index l.tasks) l.left ≡ set_of l.tasks l.number
