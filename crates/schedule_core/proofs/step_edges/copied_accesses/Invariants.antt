use Rattle.std.proofs.Common.{◌≡◌, ◌++◌, drop}
use Rattle.schedule_core.specs.StepAccesses.{accesses_of}
use Rattle.schedule_core.proofs.step_edges.copied_accesses.Given as goal

abbrev pub invariant-loop-step : goal.invariant-loop-step
invariant-loop-step l = l.accesses ++ accesses_of (drop l.step-index l.steps) ≡ accesses_of l.steps
