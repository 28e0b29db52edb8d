use Rattle.std.proofs.Common.{List, [], ◌++◌, length, sym, ◌∙◌, ap}
use Rattle.std.specs.Prelude.{IfNone, IfSome, None, Option, Some}
use Rattle.std.proofs.lemmas.Bool.{and_from, and_parts, false≢true}
use Rattle.std.proofs.lemmas.Result.{IfOk-weaker}
use Rattle.schedule_core.specs.declared.event.Event.{Event}
use Rattle.schedule_core.specs.Courses.{Course}
use Rattle.schedule_core.specs.EventBlocks.{step_access}
use Rattle.schedule_core.specs.Schedules.{all_over, goes_on, is_begun}
use Rattle.schedule_core.proofs.ScheduleTests.{schedule-from_test, test-from_schedule}
use Rattle.schedule_core.proofs.running.run_events.Goals as goal

-- what is said of an answer without an outcome, and of one with an outcome
at_none : {A : Type 0} (P Q : Type 0) (o : Option A) → (P → Q) → IfNone o P → IfNone o Q
at_none P Q None f h = f h
at_none P Q (Some x) f h = tt

at_some : {A : Type 0} (P Q : A → Type 0) (o : Option A) → ((x : A) → P x → Q x) → IfSome o P → IfSome o Q
at_some P Q None f h = tt
at_some P Q (Some x) f h = f x h

pub returns-then-not-take_all-clause-none : goal.returns-then-not-take_all-clause-none
returns-then-not-take_all-clause-none c schedule =
    let steps = c.args.steps.now in
    let told = c.take_all.ensures.answer
    ∙ ap (λ (v : Course). goes_on (step_access v.steps) (length v.steps) v.events c.as_slice.result.now) c.in_ok-machine.ensures
    ∙ ap (λ (es : List Event). goes_on (step_access steps) (length steps) [] es) c.as_slice.ensures in
    let begun = (and_parts (is_begun (step_access steps) (length steps) c.args.events.now) (all_over c.args.events.now (length steps))
    (test-from_schedule (step_access steps) (length steps) c.args.events.now schedule)).0 in
    false≢true (sym c.if-not-take_all.true ∙ (told ∙ begun))

pub returns-clause-none : goal.returns-clause-none
returns-clause-none c =
    let steps = c.args.steps.now in
    let final = c.take_all.ensures.came c.if-not-take_all.false
    ∙ ap (λ (v : Course). record v { events = v.events ++ c.as_slice.result.now }) c.in_ok-machine.ensures in
    IfOk-weaker c.outcome.result _ _
    (λ o none. at_none _ _ o (λ left schedule. false≢true (sym left
    ∙ (ap (λ (v : Course). all_over v.events (length v.steps)) final ∙ (ap (λ (es : List Event). all_over es (length steps)) c.as_slice.ensures
    ∙ (and_parts (is_begun (step_access steps) (length steps) c.args.events.now) (all_over c.args.events.now (length steps))
    (test-from_schedule (step_access steps) (length steps) c.args.events.now schedule)).1)))) none)
    c.outcome.ensures.none

pub returns-clause-schedule : goal.returns-clause-schedule
returns-clause-schedule c =
    let steps = c.args.steps.now in
    let told = c.take_all.ensures.answer
    ∙ ap (λ (v : Course). goes_on (step_access v.steps) (length v.steps) v.events c.as_slice.result.now) c.in_ok-machine.ensures
    ∙ ap (λ (es : List Event). goes_on (step_access steps) (length steps) [] es) c.as_slice.ensures in
    let final = c.take_all.ensures.came c.if-not-take_all.false
    ∙ ap (λ (v : Course). record v { events = v.events ++ c.as_slice.result.now }) c.in_ok-machine.ensures in
    IfOk-weaker c.outcome.result _ _
    (λ o some. at_some _ _ o (λ x over. schedule-from_test (step_access steps) (length steps) c.args.events.now
    (and_from (is_begun (step_access steps) (length steps) c.args.events.now) (all_over c.args.events.now (length steps))
    (sym told ∙ c.if-not-take_all.false)
    (sym (ap (λ (v : Course). all_over v.events (length v.steps)) final ∙ ap (λ (es : List Event). all_over es (length steps)) c.as_slice.ensures) ∙ over))) some)
    c.outcome.ensures.over
