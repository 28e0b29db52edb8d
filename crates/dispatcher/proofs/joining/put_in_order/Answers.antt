use Rattle.std.proofs.Common.{sym, ◌∙◌, arith}
use Rattle.std.proofs.lemmas.List.{length-set}
use Rattle.dispatcher.proofs.JoinedLogs.{ordered-more, some-at}
use Rattle.dispatcher.proofs.joining.put_in_order.Goals as goal

pub unreachable-requires : goal.unreachable-requires
unreachable-requires c =
    let e = c.requires.full c.loop-at.at (omega (arith, c.requires.long)) in
    let is = sym (some-at c.args.log.now c.loop-at.at e.0 e.1) ∙ c.in-None.is in cc

pub loop-at-preserved : goal.loop-at-preserved
loop-at-preserved c = (
  length-set c.loop-at.schedule c.loop-at.at c.in-Some.event ∙ c.loop-at.invariant.0,
  ordered-more c.args.log.now c.loop-at.schedule c.loop-at.at c.in-Some.event (omega (arith, c.loop-at.invariant.0)) c.loop-at.invariant.1 c.in-Some.is,
)
