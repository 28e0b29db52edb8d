use Rattle.std.proofs.Common.{◌≡◌, drop}
use Rattle.block_expr.specs.Seen.{tree_of}
use Rattle.block_expr.specs.Expanded.{expanded_right, with_terms}
use Rattle.block_expr.proofs.expanding.expanded_right.Given as goal

abbrev pub invariant-loop-term : goal.invariant-loop-term
invariant-loop-term l = with_terms l.op l.parts l.place.row l.place.col (drop l.term-index l.op.terms) (tree_of l.found)
    ≡ expanded_right l.op l.parts l.place.row l.place.col
