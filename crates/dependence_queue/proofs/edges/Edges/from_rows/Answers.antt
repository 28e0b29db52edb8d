use Rattle.std.proofs.Common.{◌≡◌, ℕ, ◌+◌, ◌<◌, ◌≤◌, List, ◌++◌, length, sym, ◌∙◌, ap, subst, arith}
use Rattle.std.specs.Prelude.{All}
use Rattle.dependence_queue.specs.declared.edge.Edge.{Edge}
use Rattle.dependence_queue.specs.Edges.{count_into}
use Rattle.dependence_queue.specs.Indexes.{IsIndexed}
use Rattle.dependence_queue.proofs.IndexedEdges.{laid, beginnings, All-laid, indexed, laid-step, beginnings-step, laid-all}
use Rattle.dependence_queue.proofs.edges.Edges.from_rows.Goals as goal

pub loop-row-preserved : goal.loop-row-preserved
loop-row-preserved c = record {
  edges = laid-step c.args.rows.now c.loop-row.row-index c.row-item.result c.loop-row.edges.items c.extend_from_slice.new.self.items (omega arith) c.row-item.is
      c.loop-row.invariant.edges (c.in_ok-extend_from_slice.ensures.items ∙ ap (λ (r : List Edge). c.loop-row.edges.items ++ r) c.as_slice.ensures);
  starts = beginnings-step c.args.rows.now c.loop-row.row-index c.len.result c.loop-row.edges.items c.loop-row.starts.items c.push-in-loop-row.new.self.items (omega arith)
      c.loop-row.invariant.edges c.loop-row.invariant.starts c.in_ok-push-2.ensures.items;
}

pub count_preds-requires-clause-steps : goal.count_preds-requires-clause-steps
count_preds-requires-clause-steps c =
    let e : laid c.args.rows.now ≡ c.as_slice-2.result.now =
    sym (c.as_slice-2.ensures.value ∙ laid-all c.args.rows.now c.loop-row.row-index c.loop-row.edges.items (omega arith) c.loop-row.invariant.edges) in
    subst (λ (es : List Edge). All (λ d. d.to ≤ length c.args.rows.now) es) e (All-laid (length c.args.rows.now) 1 c.args.rows.now c.requires.rows)

pub count_preds-requires-clause-few : goal.count_preds-requires-clause-few
count_preds-requires-clause-few c t =
    let e : laid c.args.rows.now ≡ c.as_slice-2.result.now =
    sym (c.as_slice-2.ensures.value ∙ laid-all c.args.rows.now c.loop-row.row-index c.loop-row.edges.items (omega arith) c.loop-row.invariant.edges) in
    subst (λ (es : List Edge). count_into es t < 4294967296) e (c.requires.few t)

pub invariant_of-result : goal.invariant_of-result
invariant_of-result c =
    let whole : c.loop-row.edges.items ≡ laid c.args.rows.now =
    laid-all c.args.rows.now c.loop-row.row-index c.loop-row.edges.items (omega arith) c.loop-row.invariant.edges in
    let last : c.loop-row.row-index ≡ length c.args.rows.now = omega arith in
    let starts : c.push-2.new.self.items ≡ beginnings c.args.rows.now (length c.args.rows.now + 1) =
    beginnings-step c.args.rows.now c.loop-row.row-index c.len-2.result c.loop-row.edges.items c.loop-row.starts.items c.push-2.new.self.items (omega arith)
    c.loop-row.invariant.edges c.loop-row.invariant.starts c.in_ok-push-3.ensures.items
    ∙ ap (λ (k : ℕ). beginnings c.args.rows.now (k + 1)) last in
    subst (λ (es : List Edge). IsIndexed es c.push-2.new.self.items c.in_ok-preds.preds.items) (sym whole)
    (indexed c.args.rows.now c.requires.rows c.push-2.new.self.items c.in_ok-preds.preds.items starts
    (λ t. c.in_ok-preds.ensures t ∙ ap (λ (es : List Edge). count_into es t) (c.as_slice-2.ensures.value ∙ whole)))
