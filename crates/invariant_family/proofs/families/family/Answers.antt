use Rattle.std.proofs.Common.{[], arith}
use Rattle.invariant_family.specs.Families.{invariants_of_split}
use Rattle.invariant_family.proofs.Numbering.{family_more-item}
use Rattle.invariant_family.proofs.families.family.Goals as goal

pub loop-split-preserved : goal.loop-split-preserved
loop-split-preserved c = family_more-item (invariants_of_split c.args.op.now) c.deref-split-items.result.now c.loop-split.split-index _ [] c.loop-split.variants.items c.add_split.new.variants.items
    (omega arith) c.loop-split.invariant c.in_ok-add_split.ensures
