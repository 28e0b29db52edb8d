use Rattle.std.proofs.Common.{ℕ, List, [], ◌∷◌, ◌++◌, sym, ◌∙◌, ap₂, arith}
use Rattle.std.proofs.lemmas.List.FromFn.{map-range_with_len_more}
use Rattle.dependence_queue.specs.Edges.{count_into}
use Rattle.block_store.proofs.new_board.counted_edges.Goals as goal

pub loop-t-preserved : goal.loop-t-preserved
loop-t-preserved c =
    c.in_ok-push.ensures.items
    ∙ ap₂ (λ (xs : List ℕ) (x : ℕ). xs ++ x ∷ []) c.loop-t.invariant (c.from.ensures ∙ c.preds.ensures)
    ∙ sym (map-range_with_len_more (λ (t : ℕ). count_into c.args.edges.now t) 0 c.loop-t.t c.loop-t.t (omega arith))
