use Rattle.std.proofs.Common.{◌≡◌, ◌<◌, ℕ, List, Option, Some, length, slice_get, sym, ap, ◌∙◌, subst, arith}
use Rattle.std.proofs.lemmas.List.{with_items_is}
use Rattle.schedule_core.specs.declared.event.Event.{Event}
use Rattle.schedule_core.specs.EventBlocks.{step_access}
use Rattle.schedule_core.specs.Schedules.{IsSchedule}
use Rattle.block_store.specs.Seats.{key_of, view}
use Rattle.block_store.specs.Stamps.{AreByStamps}
use Rattle.dispatcher.proofs.Failures.{first-failure}
use Rattle.dispatcher.proofs.JoinedEvents.{full-log, run-schedule, run-stamps}
use Rattle.dispatcher.proofs.shared_run.SharedRun.collect.Goals as goal

pub put_in_order-requires-clause-full : goal.put_in_order-requires-clause-full
put_in_order-requires-clause-full c =
    let j = c.join_all-joined.result in
    let e = c.join_all-joined.ensures in
    subst (λ (xs : List (Option Event)). (n : ℕ) → n < length xs → (e : Event) × (slice_get xs n ≡ Some (Some e))) (sym c.as_slice.ensures.value)
    (full-log (key_of c.args.self.now.board.now) (view j.seat) j.log.items e.whole e.joined.covered e.joined.long)

pub returns-clause-schedule : goal.returns-clause-schedule
returns-clause-schedule c =
    let j = c.join_all-joined.result in
    let e = c.join_all-joined.ensures in
    let steps = c.args.self.now.run.steps.now in
    let events = c.put_in_order.new.schedule in
    let same : length events ≡ length c.args.room.items = c.put_in_order.ensures.many ∙ ap length c.as_mut_slice.ensures.value in
    let kept = with_items_is c.args.room events (omega (arith, same, c.args.room.ok.0)) in
    subst (λ (xs : List Event). IsSchedule (step_access steps) (length steps) xs) (sym (c.from_vec.ensures ∙ kept))
    (run-schedule (key_of c.args.self.now.board.now) (view j.seat) j.log.items e.whole e.joined.covered steps events c.requires.shared.key.steps_are (same ∙ c.requires.room)
    (λ n d at. ap (λ (xs : List (Option Event)). slice_get xs n) (sym c.as_slice.ensures.value) ∙ c.put_in_order.ensures.each n d at))

pub returns-clause-stamps : goal.returns-clause-stamps
returns-clause-stamps c =
    let j = c.join_all-joined.result in
    let e = c.join_all-joined.ensures in
    let events = c.put_in_order.new.schedule in
    let same : length events ≡ length c.args.room.items = c.put_in_order.ensures.many ∙ ap length c.as_mut_slice.ensures.value in
    let kept = with_items_is c.args.room events (omega (arith, same, c.args.room.ok.0)) in
    subst (λ (xs : List Event). AreByStamps (view j.seat).facts xs) (sym (c.from_vec.ensures ∙ kept))
    (run-stamps (key_of c.args.self.now.board.now) (view j.seat) j.log.items e.whole e.joined.covered events (same ∙ c.requires.room)
    (λ n d at. ap (λ (xs : List (Option Event)). slice_get xs n) (sym c.as_slice.ensures.value) ∙ c.put_in_order.ensures.each n d at))

pub returns-clause-failed : goal.returns-clause-failed
returns-clause-failed c =
    let j = c.join_all-joined.result in
    let e = c.join_all-joined.ensures in first-failure (key_of c.args.self.now.board.now) (view j.seat) e.whole j.failed e.joined.noted
