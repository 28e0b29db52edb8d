use Rattle.std.proofs.Common.{◌≡◌, ℕ, ◌+◌, ◌<◌, List, length, get_or, set, refl, ◌∙◌, ap, arith}
use Rattle.std.proofs.lemmas.List.{length-set, length-replicate, get_or_default}
use Rattle.dependence_queue.specs.declared.edge.Edge.{Edge}
use Rattle.dependence_queue.specs.Marks.{no_edge}
use Rattle.dependence_queue.proofs.CodeSteps.{counts_more, count_below, zeros_at}
use Rattle.dependence_queue.proofs.edges.count_preds.Goals as goal

pub index_mut-requires : goal.index_mut-requires
index_mut-requires c = omega (arith, c.requires.steps c.loop-edge.edge-index no_edge (omega arith))

pub overflow_add-index_mut : goal.overflow_add-index_mut
overflow_add-index_mut c =
    let e : Edge = get_or c.args.edges.now c.loop-edge.edge-index no_edge in
    let bound : e.to < length c.loop-edge.preds.items = omega (arith, c.requires.steps c.loop-edge.edge-index no_edge (omega arith)) in
    let now : c.index_mut.result.now ≡ get_or c.loop-edge.preds.items e.to 0 =
    c.index_mut.ensures.value ∙ get_or_default c.loop-edge.preds.items e.to c.index_mut.result.now 0 bound in
    omega (
      arith,
      now,
      c.requires.few e.to,
      count_below c.args.edges.now c.loop-edge.edge-index e no_edge c.loop-edge.preds.items (omega arith) refl c.loop-edge.invariant.counts,
    )

pub loop-edge-init : goal.loop-edge-init
loop-edge-init c = record {
  size = ap length c.in_ok-preds.ensures ∙ length-replicate {A = ℕ} (c.args.steps + 1) 0;
  counts = λ t. ap (λ (xs : List ℕ). get_or xs t 0) c.in_ok-preds.ensures ∙ zeros_at (c.args.steps + 1) t;
}

pub loop-edge-preserved : goal.loop-edge-preserved
loop-edge-preserved c =
    let e : Edge = get_or c.args.edges.now c.loop-edge.edge-index no_edge in
    let bound : e.to < length c.loop-edge.preds.items = omega (arith, c.requires.steps c.loop-edge.edge-index no_edge (omega arith)) in
    let now : c.index_mut.result.now ≡ get_or c.loop-edge.preds.items e.to 0 =
    c.index_mut.ensures.value ∙ get_or_default c.loop-edge.preds.items e.to c.index_mut.result.now 0 bound in
    record {
      size = length-set c.loop-edge.preds.items e.to (c.index_mut.result.now + 1) ∙ c.loop-edge.invariant.size;
      counts = λ t. ap (λ (k : ℕ). get_or (set c.loop-edge.preds.items e.to (k + 1)) t 0) now
          ∙ counts_more c.args.edges.now c.loop-edge.edge-index e no_edge c.loop-edge.preds.items (omega arith) refl bound c.loop-edge.invariant.counts t;
    }
