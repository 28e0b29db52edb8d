use Rattle.std.proofs.Common.{◌≡◌, ◌++◌, drop}
use Rattle.std.specs.Prelude.{filter}
use Rattle.pme_builder.specs.Pmes.{is_at}
use Rattle.pme_builder.proofs.builder.tasks_at.Given as goal

abbrev pub invariant-loop-task : goal.invariant-loop-task
invariant-loop-task l = l.own ++ filter (is_at l.place.row l.place.col) (drop l.task-index l.found) ≡ filter (is_at l.place.row l.place.col) l.found
