-- Events by the stamps that a view has of them.
use Rattle.std.specs.Prelude.{◌≡◌, ℕ, List, slice_get, Some}
use Rattle.schedule_core.specs.declared.event.Event.{Event}
use Rattle.schedule_core.specs.declared.event.Event.TheVariants.{Start, Finish}
use Rattle.block_store.specs.declared.outcome.StepOutcome.{StepOutcome}
use Rattle.block_store.specs.declared.view.Fact.{Fact}
use Rattle.block_store.specs.declared.view.Fact.TheVariants.{Began, Ended}
use Rattle.block_store.specs.Tallies.{In}

-- the event has this stamp among the facts
abbrev pub HasStamp : List Fact → ℕ → Event → Type 0
HasStamp facts n (Start t) = In (Began t n) facts
HasStamp facts n (Finish t) = (o : StepOutcome) × In (Ended t n o) facts

-- at each place of the events stands one that has this place as its stamp
abbrev pub HaveStamps : List Fact → List Event → Type 0
HaveStamps facts events = (n : ℕ) (e : Event) → slice_get events n ≡ Some e → HasStamp facts n e

-- and each event of the facts stands at the place that is its stamp
pub record AreByStamps (facts : List Fact) (events : List Event) : Type 0 where
  pub stamped : HaveStamps facts events
  pub placed : (n : ℕ) (e : Event) → HasStamp facts n e → slice_get events n ≡ Some e
