use Rattle.std.proofs.Common.{◌≡◌, drop}
use Rattle.task_values.specs.Marks.{all_marked}
use Rattle.task_values.proofs.marks.set_all.Given as goal

-- the numbers that are left, marked after those so far, leave what all do
abbrev pub invariant-loop-number : goal.invariant-loop-number
invariant-loop-number l = all_marked (drop l.number-index l.numbers) l.marks ≡ all_marked l.numbers l.initial.marks
