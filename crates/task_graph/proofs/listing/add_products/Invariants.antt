use Rattle.std.proofs.Common.{◌≡◌, ◌≤◌, ◌++◌, length}
use Rattle.task_graph.specs.Listing.{products_of}
use Rattle.task_graph.proofs.listing.add_products.Given as goal

abbrev pub invariant-loop-at : goal.invariant-loop-at
invariant-loop-at l = record {
  grown : l.found.items ≡ l.fn.found.items ++ products_of l.op l.parts l.i l.j l.at;
  few : length l.found.items ≤ 262144;
}
