-- The steps one after another.
use Rattle.std.proofs.Common.{◌≡◌, ℕ, zero, suc, ◌<◌, ◌≤◌, inl, inr, true, false, List, [], ◌∷◌, ◌++◌, refl, sym, ◌∙◌, ap, subst, arith, append_assoc}
use Rattle.std.specs.Prelude.{◌||◌}
use Rattle.std.proofs.lemmas.Bool.{cases_Bool, and_from, false≢true, or_cases}
use Rattle.dependence_queue.specs.declared.access.Access.{Access}
use Rattle.schedule_core.specs.declared.event.Event.{Event}
use Rattle.schedule_core.specs.declared.event.Event.TheVariants.{Start, Finish}
use Rattle.schedule_core.specs.Schedules.{is_event, has_event, event_step, IsSchedule, is_begun, all_over, in_order}
use Rattle.schedule_core.proofs.EventTests.{same-event, has-append}
use Rattle.schedule_core.proofs.ScheduleTests.{begun-more, has-last, over-more, over-next, start-may, finish-may, schedule-from_test}

-- they have no event of a later step
order-upto : (k : ℕ) (e : Event) → has_event (in_order k) e ≡ true → event_step e ≤ k
order-upto zero e h = absurd (false≢true h)
order-upto (suc k) e h = elim (or_cases (has_event (in_order k) e) (has_event (Start (suc k) ∷ Finish (suc k) ∷ []) e)
    (sym (has-append (in_order k) (Start (suc k) ∷ Finish (suc k) ∷ []) e) ∙ h)) [
      | inl before ↦ omega (arith, order-upto k e before)
      | inr new ↦ elim (or_cases (is_event (Start (suc k)) e) (is_event (Finish (suc k)) e || false) new) [
        | inl start ↦ omega (arith, ap event_step (same-event (Start (suc k)) e start))
        | inr more ↦ elim (or_cases (is_event (Finish (suc k)) e) false more) [
          | inl finish ↦ omega (arith, ap event_step (same-event (Finish (suc k)) e finish))
          | inr none ↦ absurd (false≢true none)
        ]
      ]
    ]

order-new : (k : ℕ) (e : Event) → k < event_step e → has_event (in_order k) e ≡ false
order-new k e later = elim (cases_Bool (has_event (in_order k) e)) [
  | inl had ↦ absurd (omega (arith, order-upto k e had))
  | inr new ↦ new
]

module _ (accesses : ℕ → Access) (n : ℕ) where
  -- the first k steps
  order-goes : (k : ℕ) → k ≤ n → (is_begun accesses n (in_order k) ≡ true) × (all_over (in_order k) k ≡ true)
  order-goes zero within = (refl, refl)
  order-goes (suc k) within =
      let h = order-goes k (omega arith) in
      let started : List Event = in_order k ++ Start (suc k) ∷ [] in
      let begun : is_begun accesses n started ≡ true
      = begun-more accesses n (in_order k) (Start (suc k)) h.0
      (start-may accesses n (in_order k) k h.1 within (order-new k (Start (suc k)) (omega arith))) in
      let runs : has_event started (Finish (suc k)) ≡ false
      = has-append (in_order k) (Start (suc k) ∷ []) (Finish (suc k)) ∙ (rw (order-new k (Finish (suc k)) (omega arith)) refl) in
      let both : is_begun accesses n (started ++ Finish (suc k) ∷ []) ≡ true
      = begun-more accesses n started (Finish (suc k)) begun
      (finish-may accesses n started k within (has-last accesses n (in_order k) (Start (suc k))) runs) in
      let over : all_over (started ++ Finish (suc k) ∷ []) (suc k) ≡ true
      = over-next accesses n (started ++ Finish (suc k) ∷ []) k
      (over-more accesses n started (Finish (suc k) ∷ []) k (over-more accesses n (in_order k) (Start (suc k) ∷ []) k h.1))
      (has-last accesses n started (Finish (suc k))) in
      let regroup : started ++ Finish (suc k) ∷ [] ≡ in_order (suc k) = append_assoc (in_order k) (Start (suc k) ∷ []) (Finish (suc k) ∷ []) in
      (subst (λ (es : List Event). is_begun accesses n es ≡ true) regroup both, subst (λ (es : List Event). all_over es (suc k) ≡ true) regroup over)

  pub order-schedule : IsSchedule accesses n (in_order n)
  order-schedule =
      let h = order-goes n (omega arith) in
      schedule-from_test accesses n (in_order n) (and_from (is_begun accesses n (in_order n)) (all_over (in_order n) n) h.0 h.1)
