use Rattle.std.proofs.Common.{◌≡◌, ◌+◌, ◌++◌, length, map}
use Rattle.invariant_family.specs.Families.{invariant_of, numbered_from}
use Rattle.invariant_family.proofs.families.add_directions.Given as goal

abbrev pub invariant-loop-kept : goal.invariant-loop-kept
invariant-loop-kept l = l.variants.items ≡ l.initial.variants.items ++ numbered_from (length l.initial.variants.items + 1) (map (invariant_of l.split l.dirs) l.yielded)
