use Rattle.std.proofs.Common.{◌++◌, ◌∷◌, [], length, ap, sym, ◌∙◌, arith}
use Rattle.schedule_core.specs.declared.event.Event.TheVariants.{Finish}
use Rattle.schedule_core.specs.Courses.{Course}
use Rattle.schedule_core.specs.EventBlocks.{step_access}
use Rattle.schedule_core.specs.Schedules.{may_come}
use Rattle.schedule_core.specs.Turns.{logged}
use Rattle.schedule_core.proofs.MachineSteps.{finish-due, machine-finish}
use Rattle.schedule_core.proofs.TurnTests.{finish-enough, finish-room, finish-test, next-few, next-within}
use Rattle.schedule_core.proofs.machine.Machine.finish.Goals as goal

pub returns-then-not-may_finish-clause-answer : goal.returns-then-not-may_finish-clause-answer
returns-then-not-may_finish-clause-answer c =
    let u = c.self.inside.turns in
    let inv = c.self.invariant in
    sym c.if-not-may_finish.true ∙ c.may_finish.ensures ∙ finish-test c.self.inside.run.steps.now (logged u) u inv.turns inv.begun c.args.t
    ∙ ap (λ (v : Course). may_come (step_access v.steps) (length v.steps) v.events (Finish c.args.t)) c.self.view_is

pub end-requires-2-clause-room : goal.end-requires-2-clause-room
end-requires-2-clause-room c =
    let u = c.self.inside.turns in
    let inv = c.self.invariant in
    finish-room c.self.inside.run.steps.now (logged u) u inv.turns inv.begun c.args.t
    (sym (finish-test c.self.inside.run.steps.now (logged u) u inv.turns inv.begun c.args.t) ∙ (sym c.may_finish.ensures ∙ c.if-not-may_finish.false))

pub end-requires-clause-due : goal.end-requires-clause-due
end-requires-clause-due c =
    let u = c.self.inside.turns in
    let inv = c.self.invariant in
    let may = sym (finish-test c.self.inside.run.steps.now (logged u) u inv.turns inv.begun c.args.t) ∙ (sym c.may_finish.ensures ∙ c.if-not-may_finish.false) in
    (logged u, finish-due c.self.inside.run c.self.inside.edges u c.self.inside.held inv c.args.t may)

pub end-requires-2-clause-few : goal.end-requires-2-clause-few
end-requires-2-clause-few c =
    let inv = c.self.invariant in
    rw inv.edges_are (omega (arith, next-few c.self.inside.run.steps.now c.args.t, inv.few))

pub end-requires-2-clause-steps : goal.end-requires-2-clause-steps
end-requires-2-clause-steps c =
    let inv = c.self.invariant in
    rw (inv.edges_are, inv.turns.waits_count) (next-within c.self.inside.run.steps.now c.args.t)

pub end-requires-2-clause-enough : goal.end-requires-2-clause-enough
end-requires-2-clause-enough c =
    let u = c.self.inside.turns in
    let inv = c.self.invariant in
    let may = sym (finish-test c.self.inside.run.steps.now (logged u) u inv.turns inv.begun c.args.t) ∙ (sym c.may_finish.ensures ∙ c.if-not-may_finish.false) in
    rw inv.edges_are (finish-enough c.self.inside.run.steps.now (logged u) u inv.turns inv.begun c.args.t may)

pub invariant_of-self : goal.invariant_of-self
invariant_of-self c =
    let u = c.self.inside.turns in
    let inv = c.self.invariant in
    let may = sym (finish-test c.self.inside.run.steps.now (logged u) u inv.turns inv.begun c.args.t) ∙ (sym c.may_finish.ensures ∙ c.if-not-may_finish.false) in
    (machine-finish c.self.inside.run c.self.inside.edges u c.self.inside.held inv c.args.t may c.end-2.new.self c.end.new.self
    c.end-2.ensures.begun c.end-2.ensures.ended c.end-2.ensures.waits_len c.end-2.ensures.waits c.end-2.ensures.log c.end-2.ensures.count c.end.ensures).1

pub returns-clause-answer : goal.returns-clause-answer
returns-clause-answer c =
    let u = c.self.inside.turns in
    let inv = c.self.invariant in
    sym c.if-not-may_finish.false ∙ c.may_finish.ensures ∙ finish-test c.self.inside.run.steps.now (logged u) u inv.turns inv.begun c.args.t
    ∙ ap (λ (v : Course). may_come (step_access v.steps) (length v.steps) v.events (Finish c.args.t)) c.self.view_is

pub returns-clause-came : goal.returns-clause-came
returns-clause-came c =
    let u = c.self.inside.turns in
    let inv = c.self.invariant in
    let may = sym (finish-test c.self.inside.run.steps.now (logged u) u inv.turns inv.begun c.args.t) ∙ (sym c.may_finish.ensures ∙ c.if-not-may_finish.false) in
    let logs = (machine-finish c.self.inside.run c.self.inside.edges u c.self.inside.held inv c.args.t may c.end-2.new.self c.end.new.self
    c.end-2.ensures.begun c.end-2.ensures.ended c.end-2.ensures.waits_len c.end-2.ensures.waits c.end-2.ensures.log c.end-2.ensures.count c.end.ensures).0
    ∙ ap (λ (v : Course). v.events ++ Finish c.args.t ∷ []) c.self.view_is in
    λ _ k. record { job = (c.self.view_is k).job; b = (c.self.view_is k).b; steps = (c.self.view_is k).steps; events = logs k }
