use Rattle.std.proofs.Common.{◌≡◌, ◌++◌, drop}
use Rattle.flame_top.specs.Derive.{families_text}
use Rattle.flame_top.proofs.derive.put_families.Given as goal

-- what is appended, and the families of the operations that are left
abbrev pub invariant-loop-op : goal.invariant-loop-op
invariant-loop-op l = l.out.items ++ families_text (drop l.op-index l.operations) ≡ l.fn.out.items ++ families_text l.operations
