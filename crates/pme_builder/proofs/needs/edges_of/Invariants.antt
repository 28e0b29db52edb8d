use Rattle.std.proofs.Common.{◌≡◌, ◌++◌, ◌+◌, drop}
use Rattle.pme_builder.specs.Pmes.{edges_from, edges_of}
use Rattle.pme_builder.proofs.needs.edges_of.Given as goal

abbrev pub invariant-loop-task : goal.invariant-loop-task
invariant-loop-task l = record {
  counted : l.number ≡ l.task-index + 1;
  grown : l.edges ++ edges_from l.op l.tasks l.number (drop l.task-index l.tasks) ≡ edges_of l.op l.tasks;
}
