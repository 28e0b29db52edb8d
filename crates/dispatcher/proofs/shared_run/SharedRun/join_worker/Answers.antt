use Rattle.std.proofs.Common.{◌≡◌, List, Option, length, sym, ap, ◌∙◌, subst, arith}
use Rattle.std.proofs.lemmas.List.{with_items_is}
use Rattle.schedule_core.specs.declared.event.Event.{Event}
use Rattle.dispatcher.specs.Joining.{IsJoinedLog}
use Rattle.dispatcher.proofs.JoinedWorkers.{joined-more}
use Rattle.dispatcher.proofs.shared_run.SharedRun.join_worker.Goals as goal

pub returns-clause-joined : goal.returns-clause-joined
returns-clause-joined c =
    let old = c.args.joined.now in
    let into : c.as_mut_slice.result.now ≡ old.log.items = c.as_mut_slice.ensures.value in
    let same : length c.join_logs.new.into ≡ length old.log.items = c.join_logs.ensures.long ∙ ap length into in
    let log = with_items_is old.log c.join_logs.new.into (omega (arith, same, old.log.ok.0)) in
    let log_is : IsJoinedLog c.as_mut_slice.result.now c.as_slice.result.now c.join_logs.new.into = record { long = c.join_logs.ensures.long; mixed = c.join_logs.ensures.mixed } in
    joined-more c.args.self.now.board.now c.args.self.now.ready.now old _ c.args.worker c.requires.joined c.requires.worker
    (record { table = c.join.ensures.same.0; key = c.join.ensures.same.1; empty = c.join.ensures.same.2; both = c.join.ensures.view })
    (subst (λ (z : List (Option Event) × List (Option Event) × List (Option Event)). IsJoinedLog z.0 z.1 z.2) (λ i. (into i, c.as_slice.ensures.value i, sym log i)) log_is)
    c.lesser_noted-joined.ensures
