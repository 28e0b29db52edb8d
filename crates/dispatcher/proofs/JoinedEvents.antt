-- The events in a log of all workers, by their stamps, are a schedule. Cited where workers are joined.
use Rattle.std.proofs.Common.{◌≡◌, ℕ, ◌*◌, ◌<◌, List, length, slice_get, Option, Some, subst, arith}
use Rattle.step_replays.specs.declared.step.Step.{Step}
use Rattle.schedule_core.specs.declared.event.Event.{Event}
use Rattle.schedule_core.specs.EventBlocks.{step_access}
use Rattle.schedule_core.specs.Schedules.{IsSchedule}
use Rattle.block_store.specs.declared.key.BoardKey.{BoardKey}
use Rattle.block_store.specs.declared.view.View.{View}
use Rattle.block_store.specs.Keys.{step_count}
use Rattle.block_store.specs.Plays.{IsWhole}
use Rattle.block_store.specs.Stamps.{AreByStamps}
use Rattle.block_store.proofs.ByStamps.{a_schedule, by_stamps}
use Rattle.block_store.proofs.Ending.{each-stamp}
use Rattle.dispatcher.specs.Workers.{IsCovered}

module _ (key : BoardKey) (v : View) (log : List (Option Event)) (whole : IsWhole key (2 * step_count key) v) (covered : IsCovered log v.facts) where
  -- there is an event at each stamp
  pub full-log : length log ≡ 2 * step_count key → (n : ℕ) → n < length log → (e : Event) × (slice_get log n ≡ Some (Some e))
  full-log long n low = let s = each-stamp key (2 * step_count key) v whole n (omega (arith, long)) in covered.covers n s.0 s.1

  pub run-schedule : (steps : List Step) (schedule : List Event) → key.steps.value ≡ steps → length schedule ≡ 2 * step_count key
      → ((n : ℕ) (e : Event) → slice_get schedule n ≡ Some e → slice_get log n ≡ Some (Some e)) → IsSchedule (step_access steps) (length steps) schedule
  run-schedule steps schedule are long each =
      subst (λ (xs : List Step). IsSchedule (step_access xs) (length xs) schedule) are (a_schedule key v schedule whole long (λ n e at. covered.sound n e (each n e at)))

  pub run-stamps : (schedule : List Event) → length schedule ≡ 2 * step_count key
      → ((n : ℕ) (e : Event) → slice_get schedule n ≡ Some e → slice_get log n ≡ Some (Some e)) → AreByStamps v.facts schedule
  run-stamps schedule long each = by_stamps key v schedule whole long (λ n e at. covered.sound n e (each n e at))
