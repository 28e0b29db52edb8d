use Rattle.std.proofs.Common.{◌∙◌}
use Rattle.pme_builder.proofs.BlockStates.{states_are_full}
use Rattle.pme_builder.proofs.builder.derive_pme.Goals as goal

pub returns-clause-blocks : goal.returns-clause-blocks
returns-clause-blocks c = states_are_full c.args.op.now _ _ c.requires _ _ _
    c.in_ok-parts.ensures (c.deref.ensures.value ∙ c.in_ok-found.ensures.found) (c.deref-2.ensures.value ∙ c.in_ok-places.ensures) c.in_ok-blocks.ensures
