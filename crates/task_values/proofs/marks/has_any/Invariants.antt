use Rattle.std.proofs.Common.{◌≡◌, drop}
use Rattle.task_values.specs.Marks.{has_marked}
use Rattle.task_values.proofs.marks.has_any.Given as goal

-- none was marked so far
abbrev pub invariant-loop-number : goal.invariant-loop-number
invariant-loop-number l = has_marked l.marks (drop l.number-index l.numbers) ≡ has_marked l.marks l.numbers
