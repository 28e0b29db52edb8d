-- Tests of events and of lists of events.
use Rattle.std.proofs.Common.{◌≡◌, ℕ, ◌+◌, ◌<◌, inl, inr, Bool, true, false, List, [], ◌∷◌, ◌++◌, refl, sym, ◌∙◌, ap, arith}
use Rattle.std.specs.Prelude.{◌&&◌, ◌||◌}
use Rattle.std.proofs.lemmas.Bool.{cases_Bool, eq-eqb, eqb-true, false≢true, or_cases, or_left}
use Rattle.schedule_core.specs.declared.event.Event.{Event}
use Rattle.schedule_core.specs.declared.event.Event.TheVariants.{Start, Finish}
use Rattle.schedule_core.specs.Schedules.{is_event, has_event, times}

-- ---- tests with one side known

pub or-false : (p : Bool) → (p || false) ≡ p
or-false true = refl
or-false false = refl

pub or-true : (p : Bool) → (p || true) ≡ true
or-true true = refl
or-true false = refl

pub and-true : (p : Bool) → (p && true) ≡ p
and-true true = refl
and-true false = refl

pub and-false : (p : Bool) → (p && false) ≡ false
and-false true = refl
and-false false = refl

-- ---- events

-- the test tells that events are equal
pub same-event : (d e : Event) → is_event d e ≡ true → d ≡ e
same-event (Start s) (Start t) h = ap Start (eqb-true s t h)
same-event (Finish s) (Finish t) h = ap Finish (eqb-true s t h)
same-event (Start s) (Finish t) h = absurd (false≢true h)
same-event (Finish s) (Start t) h = absurd (false≢true h)

pub event-same : (e : Event) → is_event e e ≡ true
event-same (Start t) = eq-eqb t t refl
event-same (Finish t) = eq-eqb t t refl

or-assoc : (p q r : Bool) → ((p || q) || r) ≡ (p || (q || r))
or-assoc true q r = refl
or-assoc false q r = refl

-- two lists, one behind the other
pub has-append : (xs ys : List Event) (e : Event) → has_event (xs ++ ys) e ≡ (has_event xs e || has_event ys e)
has-append [] ys e = refl
has-append (x ∷ xs) ys e = ap (λ (p : Bool). is_event x e || p) (has-append xs ys e) ∙ sym (or-assoc (is_event x e) (has_event xs e) (has_event ys e))

-- one event more
pub has-last : (events : List Event) (d e : Event) → has_event (events ++ d ∷ []) e ≡ (has_event events e || is_event d e)
has-last events d e = has-append events (d ∷ []) e ∙ ap (λ (p : Bool). has_event events e || p) (or-false (is_event d e))

-- the beginning of a step, and the end of each
pub start-ends : (events : List Event) (t s : ℕ) → has_event (events ++ Start t ∷ []) (Finish s) ≡ has_event events (Finish s)
start-ends events t s = has-last events (Start t) (Finish s) ∙ or-false (has_event events (Finish s))

pub times-append : (xs ys : List Event) (e : Event) → times (xs ++ ys) e ≡ times xs e + times ys e
times-append [] ys e = omega arith
times-append (x ∷ xs) ys e = omega (arith, times-append xs ys e)

-- an event is in the list exactly where it stands there once or more
pub times-none : (xs : List Event) (e : Event) → has_event xs e ≡ false → times xs e ≡ 0
times-none [] e h = refl
times-none (x ∷ xs) e h = elim (cases_Bool (is_event x e)) [
  | inl here ↦ absurd (false≢true (sym h ∙ or_left (is_event x e) (has_event xs e) here))
  | inr apart ↦ rw apart (omega (arith, times-none xs e (rw apart at h)))
]

pub times-some : (xs : List Event) (e : Event) → has_event xs e ≡ true → 0 < times xs e
times-some [] e h = absurd (false≢true h)
times-some (x ∷ xs) e h = elim (cases_Bool (is_event x e)) [
  | inl here ↦ rw here (omega arith)
  | inr apart ↦ rw apart (omega (arith, times-some xs e (rw apart at h)))
]

-- it stands somewhere in the list
pub has-cut : (xs : List Event) (e : Event) → has_event xs e ≡ true → (before after : List Event) × (xs ≡ before ++ e ∷ after)
has-cut [] e h = absurd (false≢true h)
has-cut (x ∷ xs) e h = elim (or_cases (is_event x e) (has_event xs e) h) [
  | inl here ↦ ([], xs, ap (λ (d : Event). d ∷ xs) (same-event x e here))
  | inr later ↦ (let c = has-cut xs e later in (x ∷ c.0, c.1, ap (λ (ds : List Event). x ∷ ds) c.2))
]
