use Rattle.std.proofs.Common.{◌≡◌, ◌≤◌, length, drop}
use Rattle.invariant_family.specs.Numbers.{numbers_of}
use Rattle.invariant_family.specs.Rules.{wants, may_hold, may_lack}
use Rattle.invariant_family.proofs.walk.walk.Given as goal

abbrev pub invariant-loop-left : goal.invariant-loop-left
invariant-loop-left l = record {
  within : l.left ≤ length l.rules.tasks.now;
  numbers : l.numbers.items ≡ numbers_of (wants l.rules.op.now l.rules.pairs.now) (may_hold l.rules.op.now l.rules.split l.rules.dirs l.rules.tasks.now l.rules.pairs.now) (may_lack l.rules.op.now l.rules.split l.rules.dirs) (drop l.left l.rules.tasks.now);
}

abbrev pub decreases-loop-left : goal.decreases-loop-left
decreases-loop-left l = l.left
