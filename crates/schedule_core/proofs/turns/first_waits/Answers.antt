use Rattle.std.proofs.Common.{ℕ, ◌+◌, List, [], ◌∷◌, ◌++◌, sym, ◌∙◌, ap₂, arith}
use Rattle.std.proofs.lemmas.List.FromFn.{map-range_with_len_more}
use Rattle.dependence_queue.specs.Edges.{count_into}
use Rattle.schedule_core.proofs.turns.first_waits.Goals as goal

pub loop-s-preserved : goal.loop-s-preserved
loop-s-preserved c =
    c.in_ok-push.ensures.items
    ∙ ap₂ (λ (xs : List ℕ) (x : ℕ). xs ++ x ∷ []) c.loop-s.invariant c.preds.ensures
    ∙ sym (map-range_with_len_more (λ (s : ℕ). count_into c.args.edges.now (s + 1)) 0 c.loop-s.s c.loop-s.s (omega arith))
