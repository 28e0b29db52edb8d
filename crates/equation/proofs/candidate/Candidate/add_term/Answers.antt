use Rattle.std.proofs.Common.{◌+◌, slice_index, ap, ◌∙◌, arith, length-take}
use Rattle.equation.specs.Candidates.{combined_at}
use Rattle.equation.proofs.CandidateSides.{term_cols, term_inner, term_is, term_rows}
use Rattle.equation.proofs.FactorSizes.{term_knowns}
use Rattle.equation.proofs.candidate.Candidate.add_term.Goals as goal

pub factor-first-requires-clause-known : goal.factor-first-requires-clause-known
factor-first-requires-clause-known c = (term_knowns c.args.self.now.op.now c.requires.candidate.valid c.args.term c.requires.term).0

pub factor-second-requires-clause-known : goal.factor-second-requires-clause-known
factor-second-requires-clause-known c = (term_knowns c.args.self.now.op.now c.requires.candidate.valid c.args.term c.requires.term).1

pub write_product-requires-clause-inner : goal.write_product-requires-clause-inner
write_product-requires-clause-inner c =
    term_inner c.args.self.now c.requires.candidate c.args.term c.requires.term c.factor-first.result c.factor-second.result c.factor-first.ensures c.factor-second.ensures

pub write_product-requires-clause-row_in : goal.write_product-requires-clause-row_in
write_product-requires-clause-row_in c =
    rw (term_rows c.args.self.now c.requires.candidate c.args.term c.requires.term c.factor-first.result c.factor-second.result c.factor-first.ensures c.factor-second.ensures) c.requires.piece.row

pub write_product-requires-clause-within : goal.write_product-requires-clause-within
write_product-requires-clause-within c =
    rw (term_cols c.args.self.now c.requires.candidate c.args.term c.requires.term c.factor-first.result c.factor-second.result c.factor-first.ensures c.factor-second.ensures)
    (simp length-take (omega (arith, c.requires.piece.within)))

pub returns : goal.returns
returns c = λ j within.
    c.combine.ensures j within
    ∙ ap (combined_at c.args.self.now.m c.args.term.minus (slice_index c.args.out.now j))
    (c.write_product.ensures j (simp length-take (omega (arith, c.requires.piece.few)))
    ∙ term_is c.args.self.now c.requires.candidate c.args.term c.requires.term c.factor-first.result c.factor-second.result c.factor-first.ensures c.factor-second.ensures
    c.args.at.row (c.args.at.col + j))
