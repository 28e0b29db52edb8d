use Rattle.std.proofs.Common.{◌≡◌}
use Rattle.schedule_core.specs.Schedules.{in_order}
use Rattle.variant_report.proofs.orders.ordered_events.Given as goal

-- the events of the steps so far
abbrev pub invariant-loop-step : goal.invariant-loop-step
invariant-loop-step l = l.events ≡ in_order l.step
