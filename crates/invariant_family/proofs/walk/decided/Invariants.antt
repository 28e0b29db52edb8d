use Rattle.std.proofs.Common.{◌≡◌, ◌++◌, drop}
use Rattle.std.specs.List.{flat_map}
use Rattle.invariant_family.specs.Numbers.{can_lack, can_hold, with_next}
use Rattle.invariant_family.proofs.walk.decided.Given as goal

-- the numbers so far, and those that the sets left give
abbrev pub invariant-loop-number : goal.invariant-loop-number
invariant-loop-number l = l.more.items ++ flat_map (with_next (can_lack l.rule.may_lack l.rule.wanting.items) (can_hold l.rule.may_hold l.rule.wanted.items)) (drop l.number-index l.numbers)
    ≡ flat_map (with_next (can_lack l.rule.may_lack l.rule.wanting.items) (can_hold l.rule.may_hold l.rule.wanted.items)) l.numbers
