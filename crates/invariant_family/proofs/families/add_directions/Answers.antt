use Rattle.invariant_family.proofs.Numbering.{family_more-set}
use Rattle.invariant_family.proofs.families.add_directions.Goals as goal

pub loop-kept-preserved : goal.loop-kept-preserved
loop-kept-preserved c = family_more-set c.args.split c.args.dirs c.args.variants.now.items c.loop-kept.variants.items c.add_variant.new.variants.items c.loop-kept.yielded c.in-Some.kept
    c.loop-kept.invariant c.in_ok-add_variant.ensures
