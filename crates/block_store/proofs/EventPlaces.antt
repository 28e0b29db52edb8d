-- Lists of events by the places at which they stand.
use Rattle.std.proofs.Common.{◌≡◌, ℕ, zero, suc, ◌<◌, inl, inr, true, List, [], ◌∷◌, ◌++◌, length, slice_get, Some, refl, ap, ◌∙◌, arith}
use Rattle.std.proofs.lemmas.Bool.{cases_Bool, or_left, or_right}
use Rattle.schedule_core.specs.declared.event.Event.{Event}
use Rattle.schedule_core.specs.Schedules.{has_event, is_event, times}
use Rattle.schedule_core.proofs.EventTests.{event-same, same-event}

-- where an event stands in a list that goes on behind it
pub get-here : (before after : List Event) (e : Event) → slice_get (before ++ e ∷ after) (length before) ≡ Some e
get-here [] after e = refl
get-here (d ∷ before) after e = get-here before after e

pub get-before : (before after : List Event) (i : ℕ) → i < length before → slice_get before i ≡ slice_get (before ++ after) i
get-before [] after i h = absurd (omega arith)
get-before (d ∷ before) after zero h = refl
get-before (d ∷ before) after (suc i) h = get-before before after i (omega arith)

pub get-has : (events : List Event) (i : ℕ) (e : Event) → slice_get events i ≡ Some e → has_event events e ≡ true
get-has [] i e h = absurd (cc)
get-has (d ∷ events) zero e h =
    let same : d ≡ e = cc in
    or_left (is_event d e) (has_event events e) (ap (λ (x : Event). is_event x e) same ∙ event-same e)
get-has (d ∷ events) (suc i) e h = or_right (is_event d e) (has_event events e) (get-has events i e h)

pub get-some : (events : List Event) (i : ℕ) → i < length events → (e : Event) × (slice_get events i ≡ Some e)
get-some [] i h = absurd (omega arith)
get-some (d ∷ events) zero h = (d, refl)
get-some (d ∷ events) (suc i) h = get-some events i (omega arith)

-- an event that stands nowhere, and one that stands at one place
times-nowhere : (events : List Event) (e : Event) → ((j : ℕ) → slice_get events j ≡ Some e → ⊥) → times events e ≡ 0
times-nowhere [] e nowhere = refl
times-nowhere (d ∷ events) e nowhere = elim (cases_Bool (is_event d e)) [
  | inl same ↦ absurd (nowhere 0 (ap Some (same-event d e same)))
  | inr apart ↦ rw apart (omega (arith, times-nowhere events e (λ j at. nowhere (suc j) at)))
]

pub times-one : (events : List Event) (e : Event) (i : ℕ) → slice_get events i ≡ Some e → ((j : ℕ) → slice_get events j ≡ Some e → j ≡ i) → times events e ≡ 1
times-one [] e i at once = absurd (cc)
times-one (d ∷ events) e zero at once =
    let same : d ≡ e = cc in
    let is : is_event d e ≡ true = ap (λ (x : Event). is_event x e) same ∙ event-same e in
    rw is (omega (arith, times-nowhere events e (λ j h. absurd (let z : suc j ≡ 0 = once (suc j) h in omega arith))))
times-one (d ∷ events) e (suc i) at once = elim (cases_Bool (is_event d e)) [
  | inl same ↦ absurd (let z : 0 ≡ suc i = once 0 (ap Some (same-event d e same)) in omega arith)
  | inr apart ↦ rw apart (omega (arith, times-one events e i at (λ j h. let z : suc j ≡ suc i = once (suc j) h in omega arith)))
]
