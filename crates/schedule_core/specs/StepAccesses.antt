-- What the steps of a list use, as a list.
use Rattle.std.specs.Prelude.{List, map}
use Rattle.dependence_queue.specs.declared.access.Access.{Access}
use Rattle.step_replays.specs.declared.step.Step.{Step}

abbrev pub accesses_of : List Step → List Access
accesses_of steps = map (λ (s : Step). s.access) steps
