use Rattle.std.proofs.Common.{◌≡◌}
use Rattle.dependence_queue.specs.Edges.{access_at}
use Rattle.dependence_queue.specs.Uses.{AreUses, AreRows}
use Rattle.dependence_queue.proofs.analysis.mark_edges.Given as goal

-- the steps so far were noted, and the edges into them are marked
abbrev pub invariant-loop-access : goal.invariant-loop-access
invariant-loop-access l = record {
  step : l.step ≡ l.access-index;
  uses : AreUses (access_at l.accesses) l.access-index l.uses;
  rows : AreRows (access_at l.accesses) l.access-index l.rows;
}
