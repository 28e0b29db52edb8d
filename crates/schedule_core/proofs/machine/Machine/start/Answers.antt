use Rattle.std.proofs.Common.{◌++◌, ◌∷◌, [], length, ap, sym, ◌∙◌}
use Rattle.schedule_core.specs.declared.event.Event.TheVariants.{Start}
use Rattle.schedule_core.specs.Courses.{Course}
use Rattle.schedule_core.specs.EventBlocks.{step_access}
use Rattle.schedule_core.specs.Schedules.{may_come}
use Rattle.schedule_core.specs.Turns.{logged}
use Rattle.schedule_core.proofs.MachineSteps.{machine-start}
use Rattle.schedule_core.proofs.TurnTests.{start-room, start-test}
use Rattle.schedule_core.proofs.machine.Machine.start.Goals as goal

pub returns-then-not-may_start-clause-answer : goal.returns-then-not-may_start-clause-answer
returns-then-not-may_start-clause-answer c =
    let u = c.self.inside.turns in
    let inv = c.self.invariant in
    sym c.if-not-may_start.true ∙ c.may_start.ensures ∙ start-test c.self.inside.run.steps.now (logged u) u inv.turns inv.begun c.args.t
    ∙ ap (λ (v : Course). may_come (step_access v.steps) (length v.steps) v.events (Start c.args.t)) c.self.view_is

pub begin-requires-clause-room : goal.begin-requires-clause-room
begin-requires-clause-room c =
    let u = c.self.inside.turns in
    let inv = c.self.invariant in
    start-room c.self.inside.run.steps.now (logged u) u inv.turns inv.begun c.args.t
    (sym (start-test c.self.inside.run.steps.now (logged u) u inv.turns inv.begun c.args.t) ∙ (sym c.may_start.ensures ∙ c.if-not-may_start.false))

pub invariant_of-self : goal.invariant_of-self
invariant_of-self c =
    let u = c.self.inside.turns in
    let inv = c.self.invariant in
    let may = sym (start-test c.self.inside.run.steps.now (logged u) u inv.turns inv.begun c.args.t) ∙ (sym c.may_start.ensures ∙ c.if-not-may_start.false) in
    (machine-start c.self.inside.run c.self.inside.edges u c.self.inside.held inv c.args.t may c.begin.new.self
    c.begin.ensures.begun c.begin.ensures.ended c.begin.ensures.waits c.begin.ensures.log c.begin.ensures.count).1

pub returns-clause-answer : goal.returns-clause-answer
returns-clause-answer c =
    let u = c.self.inside.turns in
    let inv = c.self.invariant in
    sym c.if-not-may_start.false ∙ c.may_start.ensures ∙ start-test c.self.inside.run.steps.now (logged u) u inv.turns inv.begun c.args.t
    ∙ ap (λ (v : Course). may_come (step_access v.steps) (length v.steps) v.events (Start c.args.t)) c.self.view_is

pub returns-clause-came : goal.returns-clause-came
returns-clause-came c =
    let u = c.self.inside.turns in
    let inv = c.self.invariant in
    let may = sym (start-test c.self.inside.run.steps.now (logged u) u inv.turns inv.begun c.args.t) ∙ (sym c.may_start.ensures ∙ c.if-not-may_start.false) in
    let logs = (machine-start c.self.inside.run c.self.inside.edges u c.self.inside.held inv c.args.t may c.begin.new.self
    c.begin.ensures.begun c.begin.ensures.ended c.begin.ensures.waits c.begin.ensures.log c.begin.ensures.count).0
    ∙ ap (λ (v : Course). v.events ++ Start c.args.t ∷ []) c.self.view_is in
    λ _ k. record { job = (c.self.view_is k).job; b = (c.self.view_is k).b; steps = (c.self.view_is k).steps; events = logs k }
