use Rattle.std.proofs.Common.{◌≡◌, ◌+◌, ◌++◌, length, take}
use Rattle.std.specs.List.{flat_map}
use Rattle.invariant_family.specs.Families.{invariants_in, numbered_from}
use Rattle.invariant_family.proofs.families.add_split.Given as goal

abbrev pub invariant-loop-dirs : goal.invariant-loop-dirs
invariant-loop-dirs l = l.variants.items ≡ l.initial.variants.items ++ numbered_from (length l.initial.variants.items + 1) (flat_map (invariants_in l.op l.split) (take l.dirs-index l.dirs-items))
