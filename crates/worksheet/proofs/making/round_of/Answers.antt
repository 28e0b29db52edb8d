use Rattle.std.proofs.Common.{◌∙◌}
use Rattle.worksheet.specs.Moments.{cut_before, cut_after}
use Rattle.worksheet.proofs.MadeRounds.{made_states, made_updates}
use Rattle.worksheet.proofs.making.round_of.Goals as goal

pub returns-clause-before : goal.returns-clause-before
returns-clause-before c =
    made_states c.args.op.now c.args.split c.args.kept.now c.as_slice-kept.result.now c.in_ok-parts.parts c.as_slice-kept.ensures c.in_ok-parts.ensures
    (cut_before c.args.op.now c.args.split c.args.dirs) c.in_ok-before_cut.before_cut c.deref.result.now c.deref-2.result.now _
    c.in_ok-before_cut.ensures (c.deref.ensures.value ∙ c.in_ok-found.ensures) (c.deref-2.ensures.value ∙ c.in_ok-places.ensures) c.in_ok-states.ensures

pub returns-clause-updates : goal.returns-clause-updates
returns-clause-updates c =
    made_updates c.args.op.now c.args.split c.args.kept.now c.as_slice-kept.result.now c.in_ok-parts.parts c.as_slice-kept.ensures c.in_ok-parts.ensures
    c.args.dirs c.in_ok-before_cut.before_cut c.in_ok-after_cut.after_cut c.deref-3.result.now _
    c.in_ok-before_cut.ensures c.in_ok-after_cut.ensures (c.deref-3.ensures.value ∙ c.in_ok-found.ensures) c.in_ok-updates.ensures

pub returns-clause-after : goal.returns-clause-after
returns-clause-after c =
    made_states c.args.op.now c.args.split c.args.kept.now c.as_slice-kept.result.now c.in_ok-parts.parts c.as_slice-kept.ensures c.in_ok-parts.ensures
    (cut_after c.args.op.now c.args.split c.args.dirs) c.in_ok-after_cut.after_cut c.deref-4.result.now c.deref-5.result.now _
    c.in_ok-after_cut.ensures (c.deref-4.ensures.value ∙ c.in_ok-found.ensures) (c.deref-5.ensures.value ∙ c.in_ok-places.ensures) c.in_ok-states-2.ensures
