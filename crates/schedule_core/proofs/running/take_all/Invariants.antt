use Rattle.std.proofs.Common.{◌≡◌, ◌++◌, drop, length, take}
use Rattle.schedule_core.specs.EventBlocks.{step_access}
use Rattle.schedule_core.specs.Schedules.{goes_on}
use Rattle.schedule_core.proofs.running.take_all.Given as goal

-- the events so far came, and whether all come lies with the others
abbrev pub invariant-loop-event : goal.invariant-loop-event
invariant-loop-event l = (l.machine ≡ record l.initial.machine { events = l.initial.machine.events ++ take l.event-index l.events })
    × (goes_on (step_access l.initial.machine.steps) (length l.initial.machine.steps) (l.initial.machine.events ++ take l.event-index l.events) (drop l.event-index l.events)
    ≡ goes_on (step_access l.initial.machine.steps) (length l.initial.machine.steps) l.initial.machine.events l.events)
