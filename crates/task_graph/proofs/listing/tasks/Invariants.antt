use Rattle.std.proofs.Common.{◌≡◌, ◌≤◌, length}
use Rattle.task_graph.specs.Listing.{rows_of}
use Rattle.task_graph.proofs.listing.tasks.Given as goal

abbrev pub invariant-loop-at : goal.invariant-loop-at
invariant-loop-at l = record {
  grown : l.found.items ≡ rows_of l.op l.parts l.at;
  few : length l.found.items ≤ 262144;
}
