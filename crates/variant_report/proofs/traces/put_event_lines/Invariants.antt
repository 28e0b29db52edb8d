use Rattle.std.proofs.Common.{◌≡◌, ◌++◌, drop}
use Rattle.std.specs.List.{flat_map}
use Rattle.variant_report.specs.TraceTexts.{event_line}
use Rattle.variant_report.proofs.traces.put_event_lines.Given as goal

-- what is appended, and the lines of the events that are left
abbrev pub invariant-loop-event : goal.invariant-loop-event
invariant-loop-event l = l.out.items ++ flat_map event_line (drop l.event-index l.events) ≡ l.fn.out.items ++ flat_map event_line l.events
