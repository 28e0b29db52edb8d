use Rattle.std.proofs.Common.{arith}
use Rattle.invariant_family.specs.Families.{invariants_in}
use Rattle.invariant_family.proofs.Numbering.{family_more-item}
use Rattle.invariant_family.proofs.families.add_split.Goals as goal

pub loop-dirs-preserved : goal.loop-dirs-preserved
loop-dirs-preserved c = family_more-item (invariants_in c.args.op.now c.args.split) c.deref-dirs-items.result.now c.loop-dirs.dirs-index _ c.args.variants.now.items c.loop-dirs.variants.items c.add_directions.new.variants.items
    (omega arith) c.loop-dirs.invariant c.in_ok-add_directions.ensures
