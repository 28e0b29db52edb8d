-- The events by the stamps of a view that stands for all workers are a schedule.
use Rattle.std.proofs.Common.{◌≡◌, ℕ, ◌*◌, ◌<◌, true, List, [], ◌∷◌, ◌++◌, length, get_or, slice_get, Some, refl, sym, ap, ◌∙◌, subst, arith}
use Rattle.std.proofs.lemmas.Option.{slice_get-get_or}
use Rattle.dependence_queue.specs.Chains.{IsConflict}
use Rattle.schedule_core.specs.declared.event.Event.{Event}
use Rattle.schedule_core.specs.declared.event.Event.TheVariants.{Start, Finish}
use Rattle.schedule_core.specs.EventBlocks.{step_access}
use Rattle.schedule_core.specs.Schedules.{IsEventOf, IsSchedule, event_step, has_event}
use Rattle.block_store.specs.declared.key.BoardKey.{BoardKey}
use Rattle.block_store.specs.declared.view.View.{View}
use Rattle.block_store.specs.Keys.{step_count, IsStep}
use Rattle.block_store.specs.Stamps.{HasStamp, HaveStamps, AreByStamps}
use Rattle.block_store.specs.Tallies.{start, finish}
use Rattle.block_store.specs.Plays.{IsWhole}
use Rattle.block_store.proofs.Edges.{edge-steps}
use Rattle.block_store.proofs.Ending.{start-is, finish-is, has-begun, has-ended, begun-step, ended-begun, stamp-low, one-event, one-stamp, all-done, some-stamp}
use Rattle.block_store.proofs.EventPlaces.{get-here, get-before, get-has, get-some, times-one}
use Rattle.block_store.proofs.Forward.{conflicts-forward}

module _ (key : BoardKey) (v : View) (events : List Event) (whole : IsWhole key (2 * step_count key) v)
    (long : length events ≡ 2 * step_count key) (by : HaveStamps v.facts events) where
  abbrev n : ℕ
  n = 2 * step_count key

  event-step : (m : ℕ) (e : Event) → HasStamp v.facts m e → IsEventOf (step_count key) e
  event-step m (Start t) h = begun-step key n v whole t (has-begun key n v whole t m h)
  event-step m (Finish t) h = begun-step key n v whole t (ended-begun key n v whole t (has-ended key n v whole t m h.0 h.1))

  -- each event stands at its stamp
  placed : (m : ℕ) (e : Event) → HasStamp v.facts m e → slice_get events m ≡ Some e
  placed m e has =
      let got = get-some events m (omega (arith, long, stamp-low key n v whole m e has)) in got.1 ∙ ap Some (one-event key n v whole m got.0 e (by m got.0 got.1) has)

  pub by_stamps : AreByStamps v.facts events
  by_stamps = record { stamped = by; placed = placed }

  -- each event of a step stands somewhere
  place : (e : Event) → IsEventOf (step_count key) e → (i : ℕ) × (slice_get events i ≡ Some e)
  place e of =
      let m = some-stamp key n v whole refl e (λ t is. subst (λ x. IsStep key (event_step x)) is of) (λ t is. subst (λ x. IsStep key (event_step x)) is of) in
      (m.0, placed m.0 e m.1)

  starts-at : (t i : ℕ) → slice_get events i ≡ Some (Start t) → start (v ∷ []) t ≡ i
  starts-at t i at = start-is key n v whole t i (by i (Start t) at)

  finishes-at : (t i : ℕ) → slice_get events i ≡ Some (Finish t) → finish (v ∷ []) t ≡ i
  finishes-at t i at = let h = by i (Finish t) at in finish-is key n v whole t i h.0 h.1

  -- what stands at an earlier place than another event stands before it
  comes-before : (before after : List Event) (d e : Event) (i : ℕ) → events ≡ before ++ e ∷ after → slice_get events i ≡ Some d → i < length before → has_event before d ≡ true
  comes-before before after d e i cut at low =
      get-has before i d (get-before before (e ∷ after) i low ∙ (ap (λ (xs : List Event). slice_get xs i) (sym cut) ∙ at))

  stands : (before after : List Event) (e : Event) → events ≡ before ++ e ∷ after → slice_get events (length before) ≡ Some e
  stands before after e cut = ap (λ (xs : List Event). slice_get xs (length before)) cut ∙ get-here before after e

  starts_first : (t : ℕ) (before after : List Event) → events ≡ before ++ Finish t ∷ after → has_event before (Start t) ≡ true
  starts_first t before after cut =
      let at = stands before after (Finish t) cut in
      let of = event-step (length before) (Finish t) (by (length before) (Finish t) at) in
      let p = place (Start t) of in
      comes-before before after (Start t) (Finish t) p.0 cut p.1
      (omega (arith, starts-at t p.0 p.1, finishes-at t (length before) at, whole.stamps_are.start_first t (all-done key n v whole refl t of).1))

  apart : (s t : ℕ) (before after : List Event) → 0 < s → IsConflict (step_access key.steps.value) s t → events ≡ before ++ Start t ∷ after → has_event before (Finish s) ≡ true
  apart s t before after low conflict cut =
      let at = stands before after (Start t) cut in
      let of = event-step (length before) (Start t) (by (length before) (Start t) at) in
      let p = place (Finish s) (low, omega (arith, of, conflict.0)) in
      comes-before before after (Finish s) (Start t) p.0 cut p.1
      (omega (
        arith,
        finishes-at s p.0 p.1,
        starts-at t (length before) at,
        conflicts-forward key (start (v ∷ [])) (finish (v ∷ [])) (λ u step. whole.stamps_are.start_first u (all-done key n v whole refl u step).1)
            (λ a b g. whole.stamps_are.edge_forward a b g (all-done key n v whole refl b (edge-steps key a b g).1).0) s t low of.1 conflict,
      ))

  pub a_schedule : IsSchedule (step_access key.steps.value) (step_count key) events
  a_schedule = record {
    only = λ i d within. let e : Event = get_or events i d in event-step i e (by i e (slice_get-get_or events i d within));
    once = λ e of. let p = place e of in times-one events e p.0 p.1 (λ j at. one-stamp key n v whole j p.0 e (by j e at) (by p.0 e p.1));
    start_first = starts_first;
    conflicts_apart = apart;
  }
