-- The events of steps that go one after another.
use Rattle.std.proofs.Common.{◌≡◌, ℕ, List, length, ap, ◌∙◌, subst, sym}
use Rattle.step_replays.specs.declared.step.Step.{Step}
use Rattle.schedule_core.specs.declared.event.Event.{Event}
use Rattle.schedule_core.specs.EventBlocks.{step_access}
use Rattle.schedule_core.specs.Schedules.{IsSchedule, in_order}
use Rattle.schedule_core.proofs.StepsInOrder.{order-schedule}
use Rattle.flame_top.specs.Events.{AreEventsOf}

pub events-alone : (workers : ℕ) (steps : List Step) (events : List Event) (count : ℕ) → count ≡ length steps → events ≡ in_order count
    → AreEventsOf workers steps events
events-alone workers steps events count counted are =
    let all : events ≡ in_order (length steps) = are ∙ ap in_order counted in
    record {
      schedule = subst (λ (es : List Event). IsSchedule (step_access steps) (length steps) es) (sym all) (order-schedule (step_access steps) (length steps));
      alone = λ one. all;
    }
