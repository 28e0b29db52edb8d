use Rattle.std.proofs.Common.{◌+◌, sym, ◌∙◌, arith}
use Rattle.equation.specs.Candidates.{view_cols, view_table}
use Rattle.equation.proofs.RowProducts.{product-ends, product-starts, room_for_product}
use Rattle.equation.proofs.row_products.multiply_row.Goals as goal

pub add_row-requires-clause-room : goal.add_row-requires-clause-room
add_row-requires-clause-room c = λ j within.
    room_for_product (view_table c.args.f.now) (view_table c.args.g.now) c.requires.first.below c.requires.second.below c.args.at.row (c.args.at.col + j)
    c.loop-k.k _ _ (omega arith) (c.loop-k.invariant j within) c.entry-x.ensures

pub loop-k-init : goal.loop-k-init
loop-k-init c = λ j within.
    c.clear.ensures j (omega arith)
    ∙ sym (product-starts (view_table c.args.f.now) (view_table c.args.g.now) c.args.at.row (c.args.at.col + j) c.row_start.result c.col_start.result c.min-start.result
    (omega arith) c.row_start.ensures (λ k before. c.col_start.ensures k (c.args.at.col + j) before (omega arith)))

pub returns : goal.returns
returns c = λ j within.
    c.loop-k.invariant j (omega arith)
    ∙ product-ends (view_cols c.args.f.now) (view_table c.args.f.now) (view_table c.args.g.now) c.args.at.row (c.args.at.col + j) c.row_end.result c.col_end.result c.loop-k.k
    (omega arith) (omega arith) c.row_end.ensures.zeros (λ k past below. c.col_end.ensures.zeros k (c.args.at.col + j) past (omega (arith, c.requires.inner)) (omega arith))
