use Rattle.std.proofs.Common.{arith, ◌≡◌, refl, length, subst, sym, ap, ◌+◌, List, []}
use Rattle.std.proofs.lemmas.List.{length-replicate}
use Rattle.dependence_queue.specs.declared.edge.Edge.{Edge}
use Rattle.dependence_queue.specs.Edges.{access_at}
use Rattle.dependence_queue.specs.Uses.{UsesBelow}
use Rattle.dependence_queue.proofs.KeptUses.{uses-none, uses-steps}
use Rattle.dependence_queue.proofs.FoundRows.{rows-none}
use Rattle.dependence_queue.proofs.CodeSteps.{uses_after, rows_after}
use Rattle.dependence_queue.proofs.analysis.mark_edges.Goals as goal

pub loop-access-init : goal.loop-access-init
loop-access-init c = record {
  step = refl;
  uses = uses-none (access_at c.args.accesses.now) (length c.args.uses.now) c.args.uses.now c.requires.unused;
  rows = rows-none (access_at c.args.accesses.now) (length c.args.accesses.now) c.args.rows.now c.requires.empty;
}

pub mark_edges_into-requires-clause-steps : goal.mark_edges_into-requires-clause-steps
mark_edges_into-requires-clause-steps c = uses-steps (access_at c.args.accesses.now) c.loop-access.access-index (length c.loop-access.rows) c.loop-access.uses
    (omega (arith, ap length c.requires.empty, length-replicate {A = List Edge} (length c.args.accesses.now) [])) c.loop-access.invariant.uses

pub loop-access-preserved : goal.loop-access-preserved
loop-access-preserved c = record {
  step = omega arith;
  uses = uses_after c.args.accesses.now c.loop-access.access-index (c.loop-access.step + 1) c.access-item.result (omega arith) c.access-item.is (omega arith)
      c.loop-access.uses c.note.new.uses c.loop-access.invariant.uses c.in_ok-note.ensures;
  rows = rows_after c.args.accesses.now c.loop-access.access-index (c.loop-access.step + 1) c.access-item.result (omega arith) c.access-item.is (omega arith)
      c.loop-access.uses c.loop-access.rows c.mark_edges_into.new.rows c.loop-access.invariant.uses
      (let size : length c.args.uses.now ≡ length c.loop-access.uses = omega arith in
      subst (λ n. UsesBelow n c.access-item.result) size
      (subst (UsesBelow (length c.args.uses.now)) (sym c.access-item.is) (c.requires.blocks c.loop-access.access-index c.access-item.result (omega arith))))
      (omega (arith, ap length c.requires.empty, length-replicate {A = List Edge} (length c.args.accesses.now) [])) c.loop-access.invariant.rows c.in_ok-mark_edges_into.ensures;
}
