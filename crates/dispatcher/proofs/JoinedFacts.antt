-- What two seats did, put together: what one of them did and nothing else. Cited where workers are joined.
use Rattle.std.proofs.Common.{ℕ, ◌⊎◌, inl, inr, List, [], ◌∷◌, ◌++◌}
use Rattle.schedule_core.specs.declared.event.Event.{Event}
use Rattle.schedule_core.specs.declared.event.Event.TheVariants.{Start, Finish}
use Rattle.block_store.specs.declared.outcome.StepOutcome.TheVariants.{Failed}
use Rattle.block_store.specs.declared.view.Fact.{Fact}
use Rattle.block_store.specs.declared.view.Fact.TheVariants.{Began, Ended}
use Rattle.block_store.specs.Stamps.{HasStamp}
use Rattle.block_store.specs.Tallies.{In}
use Rattle.block_store.proofs.Seating.{in-append}
use Rattle.dispatcher.specs.Workers.{HasFailed}

in-left : (f : Fact) (facts more : List Fact) → In f facts → In f (facts ++ more)
in-left f [] more h = absurd h
in-left f (g ∷ facts) more (inl e) = inl e
in-left f (g ∷ facts) more (inr h) = inr (in-left f facts more h)

in-right : (f : Fact) (facts more : List Fact) → In f more → In f (facts ++ more)
in-right f [] more h = h
in-right f (g ∷ facts) more h = inr (in-right f facts more h)

-- ---- stamps

pub stamp-left : (facts more : List Fact) (n : ℕ) (e : Event) → HasStamp facts n e → HasStamp (facts ++ more) n e
stamp-left facts more n (Start t) h = in-left (Began t n) facts more h
stamp-left facts more n (Finish t) (o, h) = (o, in-left (Ended t n o) facts more h)

pub stamp-right : (facts more : List Fact) (n : ℕ) (e : Event) → HasStamp more n e → HasStamp (facts ++ more) n e
stamp-right facts more n (Start t) h = in-right (Began t n) facts more h
stamp-right facts more n (Finish t) (o, h) = (o, in-right (Ended t n o) facts more h)

pub stamp-either : (facts more : List Fact) (n : ℕ) (e : Event) → HasStamp (facts ++ more) n e → HasStamp facts n e ⊎ HasStamp more n e
stamp-either facts more n (Start t) h = in-append (Began t n) facts more h
stamp-either facts more n (Finish t) (o, h) = elim (in-append (Ended t n o) facts more h) [ inl l ↦ inl (o, l) | inr r ↦ inr (o, r) ]

-- ---- steps that failed

pub failed-left : (facts more : List Fact) (t row col : ℕ) → HasFailed facts t row col → HasFailed (facts ++ more) t row col
failed-left facts more t row col (n, h) = (n, in-left (Ended t n (Failed row col)) facts more h)

pub failed-right : (facts more : List Fact) (t row col : ℕ) → HasFailed more t row col → HasFailed (facts ++ more) t row col
failed-right facts more t row col (n, h) = (n, in-right (Ended t n (Failed row col)) facts more h)

pub failed-either : (facts more : List Fact) (t row col : ℕ) → HasFailed (facts ++ more) t row col → HasFailed facts t row col ⊎ HasFailed more t row col
failed-either facts more t row col (n, h) = elim (in-append (Ended t n (Failed row col)) facts more h) [ inl l ↦ inl (n, l) | inr r ↦ inr (n, r) ]
