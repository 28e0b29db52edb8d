use Rattle.std.proofs.Common.{◌≡◌, ◌++◌, drop, map}
use Rattle.invariant_family.specs.Numbers.{set_of}
use Rattle.invariant_family.proofs.walk.sets_of.Given as goal

abbrev pub invariant-loop-number : goal.invariant-loop-number
invariant-loop-number l = l.sets.items ++ map (set_of l.tasks) (drop l.number-index l.numbers) ≡ map (set_of l.tasks) l.numbers
