use Rattle.std.proofs.Common.{◌≡◌, ℕ, ◌+◌, take, get_or, length}
use Rattle.dependence_queue.specs.Edges.{count_into}
use Rattle.dependence_queue.proofs.edges.count_preds.Given as goal

-- the edges so far are counted
abbrev pub invariant-loop-edge : goal.invariant-loop-edge
invariant-loop-edge l = record {
  size : length l.preds.items ≡ l.steps + 1;
  counts : (t : ℕ) → get_or l.preds.items t 0 ≡ count_into (take l.edge-index l.edges) t;
}
