-- What a machine keeps: a run, its edges, and what its events so far say.
use Rattle.std.specs.Prelude.{◌≡◌, ◌≤◌, List, length, IsTrue}
use Rattle.dependence_queue.specs.declared.edge.Edge.{Edge}
use Rattle.dependence_queue.specs.Edges.{edges_of, most_accesses}
use Rattle.task_values.specs.declared.run.Run.{Run}
use Rattle.task_values.specs.Progress.{IsRun}
use Rattle.schedule_core.specs.declared.held.Held.{Held}
use Rattle.schedule_core.specs.declared.turns.Turns.{Turns}
use Rattle.schedule_core.specs.EventBlocks.{step_access}
use Rattle.schedule_core.specs.HeldSteps.{IsHeld}
use Rattle.schedule_core.specs.Schedules.{is_begun}
use Rattle.schedule_core.specs.StepAccesses.{accesses_of}
use Rattle.schedule_core.specs.Turns.{AreTurns, logged}

pub record IsMachine (r : Run) (edges : List Edge) (u : Turns) (h : Held) : Type 0 where
  pub run : IsRun r
  pub few : length r.steps.now ≤ most_accesses
  pub edges_are : edges ≡ edges_of (accesses_of r.steps.now)
  pub begun : IsTrue (is_begun (step_access r.steps.now) (length r.steps.now) (logged u))
  pub turns : AreTurns r.steps.now (logged u) u
  pub held : IsHeld r (logged u) h
