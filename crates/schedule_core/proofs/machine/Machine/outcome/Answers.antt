use Rattle.std.proofs.Common.{length, ap, subst, sym, ◌∙◌}
use Rattle.task_values.specs.Outcomes.{IsMeaning}
use Rattle.task_values.proofs.Meanings.{outcome-means}
use Rattle.schedule_core.specs.Courses.{Course}
use Rattle.schedule_core.specs.Schedules.{all_over}
use Rattle.schedule_core.specs.Turns.{logged}
use Rattle.schedule_core.proofs.MachineOutcomes.{machine-gone}
use Rattle.schedule_core.proofs.TurnTests.{ended-test}
use Rattle.schedule_core.proofs.machine.Machine.outcome.Goals as goal

pub returns-then-not-all_ended-clause-none : goal.returns-then-not-all_ended-clause-none
returns-then-not-all_ended-clause-none c =
    let u = c.self.inside.turns in
    ap (λ (v : Course). all_over v.events (length v.steps)) (sym c.self.view_is)
    ∙ (sym (ended-test c.self.inside.run.steps.now (logged u) u c.self.invariant.turns) ∙ (sym c.all_ended.ensures ∙ c.if-not-all_ended.true))

pub outcome_of-requires-clause-gone : goal.outcome_of-requires-clause-gone
outcome_of-requires-clause-gone c =
    let u = c.self.inside.turns in
    machine-gone c.self.inside.run c.self.inside.edges u c.self.inside.held c.self.invariant
    (sym (ended-test c.self.inside.run.steps.now (logged u) u c.self.invariant.turns) ∙ (sym c.all_ended.ensures ∙ c.if-not-all_ended.false))

pub returns-clause-over : goal.returns-clause-over
returns-clause-over c =
    let u = c.self.inside.turns in
    ap (λ (v : Course). all_over v.events (length v.steps)) (sym c.self.view_is)
    ∙ (sym (ended-test c.self.inside.run.steps.now (logged u) u c.self.invariant.turns) ∙ (sym c.all_ended.ensures ∙ c.if-not-all_ended.false))

pub returns-clause-meaning : goal.returns-clause-meaning
returns-clause-meaning c =
    let r = c.self.inside.run in
    let run = c.self.invariant.run in
    subst (λ (v : Course). IsMeaning v.job c.in_ok-outcome.outcome) c.self.view_is
    (outcome-means r.job.now r.b r.steps.now run.size run.job run.fit c.in_ok-outcome.outcome c.in_ok-outcome.ensures)
