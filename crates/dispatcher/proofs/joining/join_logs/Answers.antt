use Rattle.std.proofs.Common.{◌+◌, List, Option, refl, sym, subst, arith}
use Rattle.schedule_core.specs.declared.event.Event.{Event}
use Rattle.dispatcher.proofs.JoinedLogs.{IsJoinedLogTo, none-by, joined_log-all, joined_log-kept, joined_log-none, joined_log-taken, some-by}
use Rattle.dispatcher.proofs.joining.join_logs.Goals as goal
use Rattle.dispatcher.proofs.joining.join_logs.Goals.{then-is_none, else-is_none}

pub loop-at-init : goal.loop-at-init
loop-at-init c = joined_log-none c.args.into.now c.args.from.now

pub loop-at-preserved : goal.loop-at-preserved
loop-at-preserved c =
    elim c.if-is_none.branch [
      | then-is_none w ↦ subst (λ (new : List (Option Event)). IsJoinedLogTo c.args.into.now c.args.from.now new (c.loop-at.at + 1)) (sym w.into-is)
          (joined_log-taken c.args.into.now c.args.from.now c.loop-at.into c.loop-at.at _ (omega (arith, c.loop-at.auto.into)) c.loop-at.invariant (none-by _ (w.if-is_none.ensures)) refl)
      | else-is_none w ↦ subst (λ (new : List (Option Event)). IsJoinedLogTo c.args.into.now c.args.from.now new (c.loop-at.at + 1)) (sym w.into-is)
          (joined_log-kept c.args.into.now c.args.from.now c.loop-at.into c.loop-at.at c.loop-at.invariant (some-by _ (w.if-is_none.ensures)))
    ]

pub returns : goal.returns
returns c = joined_log-all c.args.into.now c.args.from.now c.loop-at.into c.loop-at.at c.loop-at-test.false c.loop-at.invariant
