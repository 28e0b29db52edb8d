use Rattle.std.proofs.Common.{◌+◌, ◌∙◌, sym, arith}
use Rattle.equation.proofs.CandidateSides.{left_cols, left_is, left_rows, seen_rows, work_square}
use Rattle.equation.proofs.candidate.Candidate.write_solved_left.Goals as goal

pub seen-x-requires-clause-square : goal.seen-x-requires-clause-square
seen-x-requires-clause-square c = work_square c.args.self.now c.requires.candidate

pub write_product-requires-clause-inner : goal.write_product-requires-clause-inner
write_product-requires-clause-inner c =
    left_cols c.args.self.now c.requires.candidate c.args.t c.requires.form c.factor-t.result c.seen-x.result c.factor-t.ensures c.seen-x.ensures
    ∙ sym c.requires.candidate.rows ∙ sym (seen_rows c.args.self.now _ c.seen-x.result c.seen-x.ensures)

pub write_product-requires-clause-row_in : goal.write_product-requires-clause-row_in
write_product-requires-clause-row_in c =
    rw (left_rows c.args.self.now c.requires.candidate c.args.t c.requires.form c.factor-t.result c.seen-x.result c.factor-t.ensures c.seen-x.ensures) c.requires.piece.row

pub returns : goal.returns
returns c = λ j within.
    c.write_product.ensures j (omega arith)
    ∙ left_is c.args.self.now c.requires.candidate c.args.t c.requires.form c.factor-t.result c.seen-x.result c.factor-t.ensures c.seen-x.ensures
    c.args.at.row (c.args.at.col + j) c.requires.piece.row (omega (arith, c.requires.piece.within))
