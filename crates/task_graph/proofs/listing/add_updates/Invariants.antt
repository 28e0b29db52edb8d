use Rattle.std.proofs.Common.{◌≡◌, ◌≤◌, ◌++◌, length}
use Rattle.task_graph.specs.Listing.{updates_of}
use Rattle.task_graph.proofs.listing.add_updates.Given as goal

abbrev pub invariant-loop-k : goal.invariant-loop-k
invariant-loop-k l = record {
  grown : l.found.items ≡ l.fn.found.items ++ updates_of l.op l.parts l.of.kind l.of.term l.of.i l.of.j l.k;
  few : length l.found.items ≤ 262144;
}
