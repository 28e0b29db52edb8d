use Rattle.std.proofs.Common.{◌≡◌, take}
use Rattle.dependence_queue.proofs.IndexedEdges.{laid, beginnings}
use Rattle.dependence_queue.proofs.edges.Edges.from_rows.Given as goal

-- the rows so far are laid, and their beginnings noted
abbrev pub invariant-loop-row : goal.invariant-loop-row
invariant-loop-row l = record {
  edges : l.edges.items ≡ laid (take l.row-index l.rows);
  starts : l.starts.items ≡ beginnings l.rows l.row-index;
}
