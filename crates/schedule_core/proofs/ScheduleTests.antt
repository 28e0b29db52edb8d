-- The tests of events that may come, of schedules and of what they begin with, and what they tell.
use Rattle.std.proofs.Common.{◌≡◌, ℕ, zero, suc, ◌+◌, ◌-◌, ◌<◌, ◌≤◌, inl, inr, Bool, true, false, not, nat_lt, nat_le, List, [], ◌∷◌, ◌++◌, refl, sym, ◌∙◌, ap, subst, arith, append_assoc}
use Rattle.std.specs.Prelude.{◌&&◌, ◌||◌, All}
use Rattle.std.proofs.lemmas.Bool.{cases_Bool, cases_eq, lt-ltb, ltb-true, le-leb, leb-true, and_parts, and_from, not_from_false, false≢true, or_cases, or_left, or_right}
use Rattle.std.proofs.lemmas.List.{append-nil}
use Rattle.std.proofs.lemmas.List.Elements.{All-nil, All-cons, All-head, All-tail}
use Rattle.dependence_queue.specs.declared.access.Access.{Access}
use Rattle.dependence_queue.specs.Conflicts.{conflicts}
use Rattle.schedule_core.specs.declared.event.Event.{Event}
use Rattle.schedule_core.specs.declared.event.Event.TheVariants.{Start, Finish}
use Rattle.schedule_core.specs.Schedules.{is_event, has_event, times, event_step, IsEventOf, IsSchedule, are_over, is_ready, may_come, goes_on, is_begun, all_over, is_schedule}
use Rattle.schedule_core.proofs.EventTests.{and-true, same-event, event-same, has-append, times-append, times-none, times-some, has-cut}

and-assoc : (p q r : Bool) → ((p && q) && r) ≡ (p && (q && r))
and-assoc true q r = refl
and-assoc false q r = refl

-- an event of both lists or of one
pub has-left : (xs ys : List Event) (e : Event) → has_event xs e ≡ true → has_event (xs ++ ys) e ≡ true
has-left xs ys e h = has-append xs ys e ∙ or_left (has_event xs e) (has_event ys e) h

pub has-right : (xs ys : List Event) (e : Event) → has_event ys e ≡ true → has_event (xs ++ ys) e ≡ true
has-right xs ys e h = has-append xs ys e ∙ or_right (has_event xs e) (has_event ys e) h

-- what stands at the border of two lists has what all of them have
All-seam : (P : Event → Type 0) (xs : List Event) (e : Event) (ys : List Event) → All P (xs ++ e ∷ ys) → P e
All-seam P [] e ys all = All-head P e ys all
All-seam P (x ∷ xs) e ys all = All-seam P xs e ys (All-tail P x (xs ++ e ∷ ys) all)

module _ (accesses : ℕ → Access) (n : ℕ) where
  -- ---- lists of events, one behind the other

  pub goes_on-append : (done xs ys : List Event)
      → goes_on accesses n done (xs ++ ys) ≡ (goes_on accesses n done xs && goes_on accesses n (done ++ xs) ys)
  goes_on-append done [] ys = ap (λ (d : List Event). goes_on accesses n d ys) (sym (append-nil done))
  goes_on-append done (x ∷ xs) ys =
      ap (λ (p : Bool). may_come accesses n done x && p)
      (goes_on-append (done ++ x ∷ []) xs ys
      ∙ ap (λ (d : List Event). goes_on accesses n (done ++ x ∷ []) xs && goes_on accesses n d ys) (append_assoc done (x ∷ []) xs))
      ∙ sym (and-assoc (may_come accesses n done x) (goes_on accesses n (done ++ x ∷ []) xs) (goes_on accesses n (done ++ x ∷ xs) ys))

  pub is_begun-next : (events : List Event) (e : Event)
      → is_begun accesses n (events ++ e ∷ []) ≡ (is_begun accesses n events && may_come accesses n events e)
  is_begun-next events e =
      goes_on-append [] events (e ∷ []) ∙ ap (λ (p : Bool). is_begun accesses n events && p) (and-true (may_come accesses n events e))

  -- each event may come where it stands
  pub may-at : (done before : List Event) (e : Event) (after : List Event) → goes_on accesses n done (before ++ e ∷ after) ≡ true
      → may_come accesses n (done ++ before) e ≡ true
  may-at done before e after h =
      let p = and_parts (goes_on accesses n done before) (goes_on accesses n (done ++ before) (e ∷ after)) (sym (goes_on-append done before (e ∷ after)) ∙ h) in
      (and_parts (may_come accesses n (done ++ before) e) (goes_on accesses n ((done ++ before) ++ e ∷ []) after) p.1).0

  -- ---- an event that may come

  not-false : (b : Bool) → not b ≡ true → b ≡ false
  not-false true h = absurd (false≢true h)
  not-false false h = refl

  pub may-is : (done : List Event) (e : Event) → may_come accesses n done e ≡ true
      → IsEventOf n e × (has_event done e ≡ false) × (is_ready accesses done e ≡ true)
  may-is done e h =
      let p = and_parts (nat_lt 0 (event_step e)) (nat_le (event_step e) n && (not (has_event done e) && is_ready accesses done e)) h in
      let q = and_parts (nat_le (event_step e) n) (not (has_event done e) && is_ready accesses done e) p.1 in
      let r = and_parts (not (has_event done e)) (is_ready accesses done e) q.1 in
      ((ltb-true 0 (event_step e) p.0, leb-true (event_step e) n q.0), not-false (has_event done e) r.0, r.1)

  pub may-from : (done : List Event) (e : Event) → IsEventOf n e → has_event done e ≡ false → is_ready accesses done e ≡ true
      → may_come accesses n done e ≡ true
  may-from done e is new ready =
      and_from (nat_lt 0 (event_step e)) (nat_le (event_step e) n && (not (has_event done e) && is_ready accesses done e)) (lt-ltb 0 (event_step e) is.0)
      (and_from (nat_le (event_step e) n) (not (has_event done e) && is_ready accesses done e) (le-leb (event_step e) n is.1)
      (and_from (not (has_event done e)) (is_ready accesses done e) (not_from_false (has_event done e) new) ready))

  -- ---- each event once

  once-only : (done events : List Event) (e : Event) → goes_on accesses n done events ≡ true → has_event done e ≡ true → has_event events e ≡ false
  once-only done [] e h was = refl
  once-only done (x ∷ xs) e h was =
      let p = and_parts (may_come accesses n done x) (goes_on accesses n (done ++ x ∷ []) xs) h in
      elim (cases_Bool (is_event x e)) [
        | inl here ↦ absurd (false≢true (sym (may-is done x p.0).1 ∙ subst (λ d. has_event done d ≡ true) (sym (same-event x e here)) was))
        | inr apart ↦ rw apart (once-only (done ++ x ∷ []) xs e p.1 (has-left done (x ∷ []) e was))
      ]

  at_most-once : (done events : List Event) (e : Event) → goes_on accesses n done events ≡ true → times events e ≤ 1
  at_most-once done [] e h = omega arith
  at_most-once done (x ∷ xs) e h =
      let p = and_parts (may_come accesses n done x) (goes_on accesses n (done ++ x ∷ []) xs) h in
      elim (cases_Bool (is_event x e)) [
        | inl here ↦ rw here
            (omega (arith, times-none xs e (once-only (done ++ x ∷ []) xs e p.1 (has-right done (x ∷ []) e (or_left (is_event x e) false here)))))
        | inr apart ↦ rw apart (omega (arith, at_most-once (done ++ x ∷ []) xs e p.1))
      ]

  -- ---- all events

  pub all-at : (events : List Event) (k t : ℕ) → all_over events k ≡ true → 0 < t → t ≤ k → has_event events (Finish t) ≡ true
  all-at events zero t h first within = absurd (omega arith)
  all-at events (suc k) t h first within =
      let p = and_parts (has_event events (Finish (suc k))) (all_over events k) h in
      elim (cases_eq t (suc k)) [
        | inl last ↦ rw last p.0
        | inr less ↦ all-at events k t p.1 first (omega arith)
      ]

  pub over-at : (done : List Event) (t k s : ℕ) → are_over accesses done t k ≡ true → 0 < s → s ≤ k → conflicts (accesses s) (accesses t) ≡ true
      → has_event done (Finish s) ≡ true
  over-at done t zero s h first within conflict = absurd (omega arith)
  over-at done t (suc k) s h first within conflict =
      let p = and_parts (not (conflicts (accesses (suc k)) (accesses t)) || has_event done (Finish (suc k))) (are_over accesses done t k) h in
      elim (cases_eq s (suc k)) [
        | inl last ↦ elim (or_cases (not (conflicts (accesses (suc k)) (accesses t))) (has_event done (Finish (suc k))) p.0) [
          | inl none ↦ absurd (false≢true (sym (not-false (conflicts (accesses (suc k)) (accesses t)) none) ∙ (rw last at conflict)))
          | inr over ↦ rw last over
        ]
        | inr less ↦ over-at done t k s p.1 first (omega arith) conflict
      ]

  pub over-from : (done : List Event) (t k : ℕ)
      → ((s : ℕ) → 0 < s → s ≤ k → conflicts (accesses s) (accesses t) ≡ true → has_event done (Finish s) ≡ true)
      → are_over accesses done t k ≡ true
  over-from done t zero each = refl
  over-from done t (suc k) each =
      and_from (not (conflicts (accesses (suc k)) (accesses t)) || has_event done (Finish (suc k))) (are_over accesses done t k)
      (elim (cases_Bool (conflicts (accesses (suc k)) (accesses t))) [
        | inl conflict ↦ or_right (not (conflicts (accesses (suc k)) (accesses t))) (has_event done (Finish (suc k))) (each (suc k) (omega arith) (omega arith) conflict)
        | inr none ↦ or_left (not (conflicts (accesses (suc k)) (accesses t))) (has_event done (Finish (suc k))) (not_from_false (conflicts (accesses (suc k)) (accesses t)) none)
      ])
      (over-from done t k (λ s first within conflict. each s first (omega arith) conflict))

  -- ---- a list that passes is a schedule

  module _ (events : List Event) (begun : is_begun accesses n events ≡ true) where
    pub at-cut : (before : List Event) (e : Event) (after : List Event) → events ≡ before ++ e ∷ after
        → IsEventOf n e × (has_event before e ≡ false) × (is_ready accesses before e ≡ true)
    at-cut before e after cut =
        may-is before e (may-at [] before e after (subst (λ (es : List Event). is_begun accesses n es ≡ true) cut begun))

    pub has-start : (t : ℕ) → has_event events (Finish t) ≡ true → has_event events (Start t) ≡ true
    has-start t h =
        let c = has-cut events (Finish t) h in
        subst (λ (es : List Event). has_event es (Start t) ≡ true) (sym c.2)
        (has-left c.0 (Finish t ∷ c.1) (Start t) (at-cut c.0 (Finish t) c.1 c.2).2)

    -- a step that has begun is one of the n
    pub began-within : (t : ℕ) → has_event events (Start t) ≡ true → IsEventOf n (Start t)
    began-within t h = let c = has-cut events (Start t) h in (at-cut c.0 (Start t) c.1 c.2).0

    has-all : all_over events n ≡ true → (e : Event) → IsEventOf n e → has_event events e ≡ true
    has-all over (Start t) is = has-start t (all-at events n t over is.0 is.1)
    has-all over (Finish t) is = all-at events n t over is.0 is.1

  All-events : (done events : List Event) → goes_on accesses n done events ≡ true → All (IsEventOf n) events
  All-events done [] h = All-nil (IsEventOf n)
  All-events done (x ∷ xs) h =
      let p = and_parts (may_come accesses n done x) (goes_on accesses n (done ++ x ∷ []) xs) h in
      All-cons (IsEventOf n) x xs (may-is done x p.0).0 (All-events (done ++ x ∷ []) xs p.1)

  pub schedule-from_test : (events : List Event) → is_schedule accesses n events ≡ true → IsSchedule accesses n events
  schedule-from_test events h =
      let p = and_parts (is_begun accesses n events) (all_over events n) h in
      record {
        only = All-events [] events p.0;
        once = λ e is. omega (arith, at_most-once [] events e p.0, times-some events e (has-all events p.0 p.1 e is));
        start_first = λ t before after cut. (at-cut events p.0 before (Finish t) after cut).2;
        conflicts_apart = λ s t before after first conflict cut.
            over-at before t (t - 1) s (at-cut events p.0 before (Start t) after cut).2 first (omega (arith, conflict.0)) conflict.1;
      }

  -- ---- and a schedule passes

  module _ (events : List Event) (schedule : IsSchedule accesses n events) where
    ready-at : (before : List Event) (e : Event) (after : List Event) → events ≡ before ++ e ∷ after → is_ready accesses before e ≡ true
    ready-at before (Start t) after cut = over-from before t (t - 1)
        (λ s first within conflict. schedule.conflicts_apart s t before after first (omega arith, conflict) cut)
    ready-at before (Finish t) after cut = schedule.start_first t before after cut

    new-at : (before : List Event) (e : Event) (after : List Event) → IsEventOf n e → events ≡ before ++ e ∷ after → has_event before e ≡ false
    new-at before e after is cut =
        let all : times before e + times (e ∷ after) e ≡ 1
        = sym (times-append before (e ∷ after) e) ∙ (subst (λ (es : List Event). times es e ≡ 1) cut (schedule.once e is)) in
        let here : 0 < times (e ∷ after) e = times-some (e ∷ after) e (or_left (is_event e e) (has_event after e) (event-same e)) in
        elim (cases_Bool (has_event before e)) [
          | inl twice ↦ absurd (omega (arith, all, here, times-some before e twice))
          | inr new ↦ new
        ]

    passes-from : (before after : List Event) → events ≡ before ++ after → goes_on accesses n before after ≡ true
    passes-from before [] cut = refl
    passes-from before (e ∷ after) cut =
        let is : IsEventOf n e = All-seam (IsEventOf n) before e after (subst (λ (es : List Event). All (IsEventOf n) es) cut schedule.only) in
        and_from (may_come accesses n before e) (goes_on accesses n (before ++ e ∷ []) after)
        (may-from before e is (new-at before e after is cut) (ready-at before e after cut))
        (passes-from (before ++ e ∷ []) after (cut ∙ sym (append_assoc before (e ∷ []) after)))

    over-upto : (k : ℕ) → k ≤ n → all_over events k ≡ true
    over-upto zero within = refl
    over-upto (suc k) within =
        and_from (has_event events (Finish (suc k))) (all_over events k)
        (elim (cases_Bool (has_event events (Finish (suc k)))) [
          | inl has ↦ has
          | inr none ↦ absurd (omega (arith, times-none events (Finish (suc k)) none, schedule.once (Finish (suc k)) (omega arith, within)))
        ])
        (over-upto k (omega arith))

    pub begun-from_schedule : is_begun accesses n events ≡ true
    begun-from_schedule = passes-from [] events refl

    pub test-from_schedule : is_schedule accesses n events ≡ true
    test-from_schedule = and_from (is_begun accesses n events) (all_over events n) begun-from_schedule (over-upto n (omega arith))

  -- ---- what begins so goes on to a schedule

  pub over-more : (events rest : List Event) (k : ℕ) → all_over events k ≡ true → all_over (events ++ rest) k ≡ true
  over-more events rest zero h = refl
  over-more events rest (suc k) h =
      let p = and_parts (has_event events (Finish (suc k))) (all_over events k) h in
      and_from (has_event (events ++ rest) (Finish (suc k))) (all_over (events ++ rest) k) (has-left events rest (Finish (suc k)) p.0) (over-more events rest k p.1)

  -- the next step begins, or ends
  pub start-may : (events : List Event) (k : ℕ) → all_over events k ≡ true → suc k ≤ n → has_event events (Start (suc k)) ≡ false
      → may_come accesses n events (Start (suc k)) ≡ true
  start-may events k over within new =
      may-from events (Start (suc k)) (omega arith, within) new
      (over-from events (suc k) (suc k - 1) (λ s first below conflict. all-at events k s over first (omega arith)))

  pub finish-may : (events : List Event) (k : ℕ) → suc k ≤ n → has_event events (Start (suc k)) ≡ true → has_event events (Finish (suc k)) ≡ false
      → may_come accesses n events (Finish (suc k)) ≡ true
  finish-may events k within began new = may-from events (Finish (suc k)) (omega arith, within) new began

  pub begun-more : (events : List Event) (e : Event) → is_begun accesses n events ≡ true → may_come accesses n events e ≡ true
      → is_begun accesses n (events ++ e ∷ []) ≡ true
  begun-more events e begun may = is_begun-next events e ∙ and_from (is_begun accesses n events) (may_come accesses n events e) begun may

  pub has-last : (events : List Event) (e : Event) → has_event (events ++ e ∷ []) e ≡ true
  has-last events e = has-right events (e ∷ []) e (or_left (is_event e e) false (event-same e))

  -- these events, and more, have ended the first k steps
  abbrev GoesTo : List Event → ℕ → Type 0
  GoesTo events k = (rest : List Event) × (is_begun accesses n (events ++ rest) ≡ true) × (all_over (events ++ rest) k ≡ true)

  pub over-next : (events : List Event) (k : ℕ) → all_over events k ≡ true → has_event events (Finish (suc k)) ≡ true → all_over events (suc k) ≡ true
  over-next events k over ended = and_from (has_event events (Finish (suc k))) (all_over events k) ended over

  ends-next : (events : List Event) (k : ℕ) → is_begun accesses n events ≡ true → all_over events k ≡ true → suc k ≤ n
      → has_event events (Start (suc k)) ≡ true → GoesTo events (suc k)
  ends-next events k begun over within began = elim (cases_Bool (has_event events (Finish (suc k)))) [
    | inl ended ↦ ([], (rw (append-nil events) begun), subst (λ (es : List Event). all_over es (suc k) ≡ true) (sym (append-nil events)) (over-next events k over ended))
    | inr runs ↦ (
      Finish (suc k) ∷ [],
      begun-more events (Finish (suc k)) begun (finish-may events k within began runs),
      over-next (events ++ Finish (suc k) ∷ []) k (over-more events (Finish (suc k) ∷ []) k over) (has-last events (Finish (suc k))),
    )
  ]

  behind : (events more : List Event) (k : ℕ) → GoesTo (events ++ more) k → GoesTo events k
  behind events more k h = (
    more ++ h.0,
    subst (λ (es : List Event). is_begun accesses n es ≡ true) (append_assoc events more h.0) h.1,
    subst (λ (es : List Event). all_over es k ≡ true) (append_assoc events more h.0) h.2,
  )

  goes-next : (events : List Event) (k : ℕ) → is_begun accesses n events ≡ true → all_over events k ≡ true → suc k ≤ n → GoesTo events (suc k)
  goes-next events k begun over within = elim (cases_Bool (has_event events (Start (suc k)))) [
    | inl began ↦ ends-next events k begun over within began
    | inr waits ↦ behind events (Start (suc k) ∷ []) (suc k) (ends-next (events ++ Start (suc k) ∷ []) k
        (begun-more events (Start (suc k)) begun (start-may events k over within waits)) (over-more events (Start (suc k) ∷ []) k over) within
        (has-last events (Start (suc k))))
  ]

  goes-to : (events : List Event) → is_begun accesses n events ≡ true → (k : ℕ) → k ≤ n → GoesTo events k
  goes-to events begun zero within = ([], (rw (append-nil events) begun), refl)
  goes-to events begun (suc k) within =
      let h = goes-to events begun k (omega arith) in
      behind events h.0 (suc k) (goes-next (events ++ h.0) k h.1 h.2 within)

  pub schedule-of_begun : (events : List Event) → is_begun accesses n events ≡ true → (rest : List Event) × IsSchedule accesses n (events ++ rest)
  schedule-of_begun events begun =
      let h = goes-to events begun n (omega arith) in
      (h.0, schedule-from_test (events ++ h.0) (and_from (is_begun accesses n (events ++ h.0)) (all_over (events ++ h.0) n) h.1 h.2))

  pub begun-of_schedule : (events rest : List Event) → IsSchedule accesses n (events ++ rest) → is_begun accesses n events ≡ true
  begun-of_schedule events rest schedule =
      (and_parts (is_begun accesses n events) (goes_on accesses n events rest)
      (sym (goes_on-append [] events rest) ∙ begun-from_schedule (events ++ rest) schedule)).0
