use Rattle.std.proofs.Common.{◌+◌, ap₂, sym, ◌∙◌, arith, length-take}
use Rattle.equation.specs.Candidates.{combined_at}
use Rattle.equation.proofs.CandidateSides.{both_are, first_cols, first_rows, second_cols, second_rows, seen_cols, seen_rows}
use Rattle.equation.proofs.FactorSizes.{sylvester_knowns}
use Rattle.equation.proofs.candidate.Candidate.write_solved_sylvester.Goals as goal

pub write_product-requires-clause-inner : goal.write_product-requires-clause-inner
write_product-requires-clause-inner c =
    first_cols c.args.self.now c.requires.candidate c.args.t c.args.u c.args.minus c.requires.form c.factor-t.result c.factor-u.result c.seen-x.result c.factor-t.ensures c.factor-u.ensures c.seen-x.ensures
    ∙ sym c.requires.candidate.rows ∙ sym (seen_rows c.args.self.now _ c.seen-x.result c.seen-x.ensures)

pub write_product-requires-clause-row_in : goal.write_product-requires-clause-row_in
write_product-requires-clause-row_in c =
    rw (first_rows c.args.self.now c.requires.candidate c.args.t c.args.u c.args.minus c.requires.form c.factor-t.result c.factor-u.result c.seen-x.result c.factor-t.ensures c.factor-u.ensures c.seen-x.ensures) c.requires.piece.row

pub factor-u-requires-clause-known : goal.factor-u-requires-clause-known
factor-u-requires-clause-known c = (sylvester_knowns c.args.self.now.op.now c.requires.candidate.valid c.args.t c.args.u c.args.minus c.requires.form).1

pub write_product-requires-2-clause-inner : goal.write_product-requires-2-clause-inner
write_product-requires-2-clause-inner c =
    seen_cols c.args.self.now _ c.seen-x.result c.seen-x.ensures ∙ c.requires.candidate.cols
    ∙ sym (second_rows c.args.self.now c.requires.candidate c.args.t c.args.u c.args.minus c.requires.form c.factor-t.result c.factor-u.result c.seen-x.result c.factor-t.ensures c.factor-u.ensures c.seen-x.ensures)

pub write_product-requires-2-clause-within : goal.write_product-requires-2-clause-within
write_product-requires-2-clause-within c =
    rw (second_cols c.args.self.now c.requires.candidate c.args.t c.args.u c.args.minus c.requires.form c.factor-t.result c.factor-u.result c.seen-x.result c.factor-t.ensures c.factor-u.ensures c.seen-x.ensures) (simp length-take (omega (arith, c.requires.piece.within)))

pub returns : goal.returns
returns c = λ j within.
    c.combine.ensures j (omega arith)
    ∙ ap₂ (combined_at c.args.self.now.m c.args.minus) (c.write_product.ensures j (omega arith)) (c.write_product-2.ensures j (simp length-take (omega (arith, c.requires.piece.few))))
    ∙ both_are c.args.self.now c.requires.candidate c.args.t c.args.u c.args.minus c.requires.form c.factor-t.result c.factor-u.result c.seen-x.result c.factor-t.ensures c.factor-u.ensures c.seen-x.ensures
    c.args.at.row (c.args.at.col + j) c.requires.piece.row (omega (arith, c.requires.piece.within))
