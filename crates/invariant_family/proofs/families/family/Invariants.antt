use Rattle.std.proofs.Common.{◌≡◌, take}
use Rattle.invariant_family.specs.Families.{invariants_along, numbered_from}
use Rattle.invariant_family.proofs.families.family.Given as goal

abbrev pub invariant-loop-split : goal.invariant-loop-split
invariant-loop-split l = l.variants.items ≡ numbered_from 1 (invariants_along l.op (take l.split-index l.split-items))
